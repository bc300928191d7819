-- What is promised of powers of ten, and cases of it.
pub mod Powers
pub mod Cases
