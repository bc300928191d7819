-- Laws that the functions' proofs cite: what a turn of each loop does, parts of a text, tokens found, what answers say in
-- words.
pub mod Turns
pub mod Parts
pub mod Scanning
pub mod Promised
pub mod BytesLaws
pub mod CommentsLaws
pub mod ScansLaws
pub mod ShownLaws
pub mod TokensLaws
