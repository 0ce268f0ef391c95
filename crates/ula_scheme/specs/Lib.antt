pub mod Schemes
pub mod Bounds
