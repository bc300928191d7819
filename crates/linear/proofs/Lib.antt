-- Laws over plain values that the functions' proofs cite, in reading order; those marked `pub` serve the crates above too.
mod Going
mod TestsLaws
mod PointsLaws
mod CombinationsLaws
mod Counting
mod CoefficientsLaws
mod ListedLaws
mod ComparingLaws
mod RoundingLaws
mod SplitsLaws
