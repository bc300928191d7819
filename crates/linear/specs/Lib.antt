-- Linear constraints over listed terms, in reading order: lists of variable and coefficient; coefficients in arrays; what the
-- code's combinations and comparisons stand for; and the laws that those who check rows cite.
pub mod Lists
pub mod Coefficients
pub mod ListsLaws
pub mod Combinations
pub mod Comparing
