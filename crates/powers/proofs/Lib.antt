-- Laws of powers of ten.
pub mod PowersLaws
pub mod Cases
