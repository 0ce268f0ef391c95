pub mod Scrolls
pub mod Columns
pub mod Bounds
