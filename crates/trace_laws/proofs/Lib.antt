pub mod Along
pub mod Start
pub mod Cut
pub mod Claims
