pub mod Lines
pub mod Dots
