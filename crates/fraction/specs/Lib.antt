-- What the public functions promise, and what the functions for C over them return and store; then the terms of contracts that
-- no caller sees.
pub mod Promise
pub mod Stored
pub mod Results
