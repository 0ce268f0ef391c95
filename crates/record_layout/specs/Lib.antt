pub mod Fields
pub mod Parts
pub mod Version
pub mod Layout
pub mod Places
pub mod Record
pub mod Claims
