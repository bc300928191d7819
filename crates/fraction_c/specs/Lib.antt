-- What the functions for C return and store.
pub mod Stored
