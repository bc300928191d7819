-- Laws that the proofs of lists, rows and derivations cite.
pub mod Listed
pub mod RowNames
pub mod Reasons
