-- What a reader has to believe of certificates as text, in reading order: the reasons of refusal; the tree that is kept of a
-- text; formats and what spells them; the grammar; reading, and that it agrees with spelling; what a text spells and reading it
-- gives; what the tables hold; 01's example and worked cases. Then what is proved of them.
pub mod Refusals
pub mod Tree
pub mod Format
pub mod Lists
pub mod Spelling
pub mod Certificate
pub mod Reading
pub mod SymbolAgreement
pub mod Layout
pub mod Texts
pub mod Tables
pub mod Example
pub mod Worked
pub mod Contents
pub mod Names
pub mod AllNames
pub mod Ranges
pub mod Fits
pub mod Positions
pub mod Rows
pub mod Header
