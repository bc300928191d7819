-- What the program promises.
pub mod Line
pub mod Input
pub mod Transcript
