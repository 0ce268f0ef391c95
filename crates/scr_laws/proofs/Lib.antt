mod Shown
mod Written
pub mod Claims
