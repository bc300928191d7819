pub mod Cases
pub mod Cells
