pub mod Vacant
pub mod Changes
pub mod Covering
pub mod Operators
pub mod Simulation
pub mod Simulates
pub mod Foresees
pub mod Starts
