-- What is proved of the definitions in specs/, and laws over plain values that the functions' proofs cite.
pub mod Agreement
pub mod AssumptionsLaws
pub mod ClaimsLaws
pub mod CombinationsLaws
pub mod DominationLaws
pub mod Result
pub mod RoundingLaws
pub mod RowsLaws
pub mod Sentence
pub mod SolutionsLaws
pub mod SplitsLaws
pub mod Tests
pub mod ValuesLaws
pub mod Worked
