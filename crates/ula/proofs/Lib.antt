pub mod Parts
pub mod Frames
