pub mod OneScroll
pub mod Claims
