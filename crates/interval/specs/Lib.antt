pub mod Ends
pub mod Exact
pub mod Interval
pub mod Meaning
pub mod Edges
pub mod Corners
pub mod Order
