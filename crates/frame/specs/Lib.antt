pub mod Frame
pub mod Claims
