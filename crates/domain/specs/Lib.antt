pub mod Domain
pub mod Computed
