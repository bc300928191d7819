-- What the readers of sections promise beside the contract of reading on from a cursor.
pub mod Sections
