pub mod Over
pub mod Allowed
pub mod Layered
