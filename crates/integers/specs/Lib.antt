-- The whole numbers: laws that the crates above cite, each stated once.
pub mod Signs
pub mod Integers
pub mod Gcd
pub mod Coprime
pub mod Binary
