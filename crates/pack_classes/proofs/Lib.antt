pub mod Group
pub mod Claims
pub mod Cells
pub mod Kept
