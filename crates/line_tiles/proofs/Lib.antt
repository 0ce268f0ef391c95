pub mod Laid
pub mod Cut
