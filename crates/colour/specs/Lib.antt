pub mod Bytes
pub mod Screen
