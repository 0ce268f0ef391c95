mod Same
pub mod Claims
