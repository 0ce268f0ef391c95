pub mod Views
pub mod Bounds
