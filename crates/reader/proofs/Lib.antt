-- Laws that the proofs of reading a document cite.
pub mod Courses
mod Fill
mod ProofLaws
mod DocumentLaws
mod Whole
mod Holding
mod Demand
