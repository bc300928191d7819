-- What a reader has to believe of claims, in reading order: how masks represent the assumption sets of a certificate, and what
-- the claim asks of the last derived row.
pub mod Masks
pub mod Asked
