-- Laws over plain values that the functions' proofs cite.
mod Refusals
mod RowsLaws
mod SpentLaws
mod CombiningLaws
mod ReasonsLaws
