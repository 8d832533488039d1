pub mod Faults
pub mod Position
pub mod Spelling
pub mod Refusal
pub mod Judging
pub mod Running
pub mod Endings
