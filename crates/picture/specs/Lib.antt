pub mod Header
pub mod Pixels
