-- What the functions for C return and store, and what stands in the caller's tables afterwards.
pub mod Values
pub mod Shown
pub mod Certificates
