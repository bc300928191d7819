-- Laws that several functions' proofs share: digits put after others; runs and parts of a token; the outcome of a form, and of one
-- with an exponent; the form of a token.
pub mod Steps
pub mod Runs
pub mod Parts
pub mod Outcomes
pub mod Scaled
pub mod Tokens
