pub mod Judging
pub mod Lengths
pub mod Passing
pub mod Turns
