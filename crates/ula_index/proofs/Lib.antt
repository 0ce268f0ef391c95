pub mod Past
pub mod Masks
