pub mod Reply
pub mod First
pub mod Answered
pub mod Claims
