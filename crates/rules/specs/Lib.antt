-- What checking a certificate means, in reading order: tests and first refusals, values, rows, solutions, domination,
-- combinations, rounding, splits, assumptions, derived rows, the claim; checking, and what it means to meet the rules; worked
-- cases; and what is proved: each test decides its words, checking refuses nothing exactly if the rules are met, and the
-- sentence about points holds of whatever meets them.
pub mod Tests
pub mod Result
pub mod Values
pub mod Rows
pub mod Solutions
pub mod Domination
pub mod Combinations
pub mod Rounding
pub mod Splits
pub mod Assumptions
pub mod Derivations
pub mod Claims
pub mod Check
pub mod Meets
pub mod Worked
pub mod Sentence
