pub mod Arithmetic
pub mod Int
pub mod Number
