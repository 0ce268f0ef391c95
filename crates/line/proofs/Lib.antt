pub mod Bounded
pub mod Layers
pub mod ShownParts
