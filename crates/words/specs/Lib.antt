pub mod Bytes
pub mod Words
pub mod Faults
pub mod Laws
