-- Laws that the proofs of the claims' functions cite.
mod Numbering
mod MasksLaws
mod ReasonsLaws
mod AskedLaws
mod ProvingLaws
