pub mod Faults
pub mod Gaps
pub mod Table
