pub mod Apart
pub mod Told
