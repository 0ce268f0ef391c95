pub mod Drawn
pub mod Bounds
