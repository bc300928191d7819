-- What the answers of tests say, and what the best objective does.
pub mod Verdicts
pub mod Best
