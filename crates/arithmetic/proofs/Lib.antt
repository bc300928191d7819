-- Laws over plain values that the functions' proofs cite.
mod Rounded
pub mod Ways
pub mod Lowest
mod Whole
pub mod Laws
pub mod Meaning
pub mod QuotientLaws
