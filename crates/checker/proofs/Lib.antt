-- Laws that the proofs of checking cite.
pub mod InOrder
pub mod Verifying
