pub mod Colours
pub mod Kept
pub mod Typed
pub mod Claims
