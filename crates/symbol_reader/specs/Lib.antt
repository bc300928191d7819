-- What the readers of one token promise: the contract over formats, that of reading on from an answer, and what the functions
-- under them answer.
pub mod Steps
pub mod Follows
pub mod Leaves
pub mod Marks
