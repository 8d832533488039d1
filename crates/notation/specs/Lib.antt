pub mod Numerals
pub mod Intervals
pub mod Lists
pub mod Cells
