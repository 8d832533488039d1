pub mod Sizes
pub mod Targets
pub mod Covers
pub mod Lengths
pub mod Reaching
pub mod Starting
pub mod Machines
