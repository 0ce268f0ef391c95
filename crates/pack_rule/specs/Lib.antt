pub mod Sheet
pub mod Greedy
pub mod Answer
pub mod Claims
pub mod Packs
