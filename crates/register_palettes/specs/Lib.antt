pub mod Palettes
