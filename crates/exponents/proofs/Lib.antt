-- The laws behind the code of exponents.
pub mod ExponentLaws
