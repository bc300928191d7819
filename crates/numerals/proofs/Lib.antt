-- That each token has one form at most, and that the reading agrees with the relation. Then laws that the code's proofs cite, of
-- digits and their numbers, and of widths and lowest terms. Last a theorem of what a value with an exponent is, in plain
-- arithmetic.
pub mod Forms
pub mod Agreement
pub mod Numbers
pub mod Widths
pub mod AsWritten
pub mod Cases
