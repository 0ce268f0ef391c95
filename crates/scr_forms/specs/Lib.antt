pub mod Forms
pub mod Files
pub mod Rows
