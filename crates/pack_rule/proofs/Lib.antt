pub mod Banked
pub mod Lower
pub mod Greedy
pub mod Packed
pub mod Answers
pub mod Claims
