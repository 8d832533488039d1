pub mod Records
pub mod Names
pub mod Tokens
pub mod Grammar
pub mod Texts
