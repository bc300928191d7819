-- Single values and right sides, in reading order: what the code's senses and signs stand for, and rounding.
pub mod Senses
pub mod Signs
pub mod Rounding
