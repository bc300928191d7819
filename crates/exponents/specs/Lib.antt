-- What is stated of exponents and powers of ten.
pub mod Exponents
