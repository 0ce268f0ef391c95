mod Started
mod First
pub mod Judged
pub mod Found
