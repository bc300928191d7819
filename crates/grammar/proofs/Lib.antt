-- What is proved of the definitions in specs/, and laws over plain values that the functions' proofs cite.
pub mod Agreement
pub mod AllNames
pub mod Contents
pub mod Example
pub mod Fits
pub mod Lists
pub mod Names
pub mod Positions
pub mod Ranges
pub mod Rows
pub mod ByCases
pub mod SymbolAgreement
pub mod Texts
pub mod Unambiguous
pub mod Worked
