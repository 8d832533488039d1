pub mod Places
pub mod Targets
pub mod Reached
pub mod Turns
pub mod Still
pub mod Passed
