pub mod Starting
pub mod Turns
