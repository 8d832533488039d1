pub mod Tallies
pub mod Faults
pub mod Registers
pub mod Lists
pub mod Machine
pub mod Laws
pub mod Runs
