-- Laws over plain values that the functions' proofs cite.
mod Lists
mod LeftSides
mod ObjectivesLaws
