pub mod Dots
pub mod Shades
pub mod Bounds
