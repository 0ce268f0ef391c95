pub mod Compose
pub mod Shades
pub mod Opaque
