pub mod Faults
pub mod Bringing
pub mod Sweeps
pub mod Settling
