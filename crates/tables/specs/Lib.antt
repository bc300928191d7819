-- What a reader has to believe of the tables, in reading order: the limits, the numbers of the words, what fetching, storing and
-- the parts of the tables give, and the pairs of two parts. Then what is proved of them.
pub mod Limits
pub mod Words
pub mod Cells
pub mod Pairs
