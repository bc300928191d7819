-- What reading promises: what the tables hold, the promise, and what reading a document promises.
pub mod Holds
pub mod Promise
pub mod Documents
