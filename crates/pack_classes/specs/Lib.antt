pub mod Picture
pub mod Turned
pub mod Mark
pub mod Claims
