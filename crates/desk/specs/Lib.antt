pub mod Own
pub mod Desk
