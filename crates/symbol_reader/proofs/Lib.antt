-- Laws that the proofs of reading cite: runs of stores, the composition of readings, what tokens mean.
pub mod Tables
pub mod Laws
pub mod FollowsLaws
pub mod LoopLaws
pub mod NamesLaws
pub mod MarksLaws
pub mod Fingerprints
pub mod Decoding
mod Turns
mod TokenLaws
