pub mod Parts
pub mod Rows
pub mod Effects
pub mod Calls
pub mod Half
pub mod Turns
pub mod Claims
