-- Masks as sets of numbers: what they mean, and that a mask is its members.
pub mod Sets
pub mod SetsLaws
