-- Laws that the proofs of the sections cite.
pub mod SectionLaws
mod ClaimLaws
mod ObjectiveLaws
mod SolutionLaws
mod ConstraintLaws
mod DerivationLaws
