-- What the checks of derived rows say: what they are made by, the multipliers of a reason, and what the code's rows and constraints
-- stand for.
pub mod Checks
pub mod Combining
pub mod Constraints
