pub mod Display
pub mod Rows
