-- What a reader has to believe of the arithmetic, in reading order: answers, exact quotients, fractions and their operations.
pub mod Outcome
pub mod Quotient
pub mod QuotientLaws
pub mod Fraction
pub mod Meaning
pub mod Laws
pub mod Parts
