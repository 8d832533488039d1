pub mod Rows
pub mod Transfer
pub mod Carrying
pub mod Marks
pub mod Soundness
