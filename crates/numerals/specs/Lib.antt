-- What a reader has to believe of values, in reading order: what a token spells, how it is read, and what Read one value
-- promises of it; then the documents' cases.
pub mod Spelling
pub mod Reading
pub mod ValueRead
pub mod Cases
