pub mod Blanks
pub mod Gaps
pub mod Longest
pub mod Lawful
pub mod Places
pub mod Only
