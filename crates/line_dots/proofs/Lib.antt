pub mod Finished
pub mod Rest
pub mod Shaded
pub mod Opaque
