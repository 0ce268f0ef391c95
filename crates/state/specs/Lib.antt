pub mod Lawful
pub mod Typed
pub mod Answer
pub mod Groups
pub mod With
pub mod Reset
pub mod Claims
