pub mod Tried
pub mod Through
