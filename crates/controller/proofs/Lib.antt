pub mod Classed
pub mod Slots
pub mod Turns
pub mod Steps
pub mod Covers
pub mod Laws
pub mod Alike
