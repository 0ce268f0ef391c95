pub mod Moved
pub mod Exits
