-- Laws over plain values that the functions' proofs cite, in reading order; those marked `pub` serve the crates above too.
pub mod Truth
pub mod ValuesLaws
pub mod ArithmeticLaws
mod RoundingLaws
