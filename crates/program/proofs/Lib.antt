-- Laws that the proofs of the program cite.
pub mod Decimals
pub mod Lines
pub mod Inputs
