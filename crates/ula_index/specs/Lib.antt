pub mod Index
pub mod Bounds
