pub mod Desks
pub mod Places
