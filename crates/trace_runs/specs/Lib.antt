pub mod Runs
pub mod Bounds
