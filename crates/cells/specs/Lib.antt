pub mod Values
pub mod Cells
