-- Laws that several functions' proofs cite.
pub mod ClaimsLaws
pub mod EncodesLaws
pub mod HeldLaws
pub mod HeldPairs
pub mod HeldReasons
