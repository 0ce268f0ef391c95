pub mod Turns
pub mod Claims
