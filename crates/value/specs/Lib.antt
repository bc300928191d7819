-- What Read one value promises; then the terms of the private contracts.
pub mod Promise
pub mod Runs
