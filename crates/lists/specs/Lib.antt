pub mod Tab
pub mod Rows
pub mod Search
pub mod Placed
pub mod Bytes
