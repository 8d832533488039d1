pub mod Reachable
pub mod Promise
