pub mod Faults
pub mod Names
pub mod Drafts
pub mod Lent
pub mod Statements
pub mod Reading
pub mod Formed
pub mod FirstFault
