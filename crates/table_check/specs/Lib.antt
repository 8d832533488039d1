pub mod Passing
pub mod Failures
pub mod Faults
pub mod Sheets
