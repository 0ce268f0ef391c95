pub mod Claims
pub mod Done
pub mod Order
pub mod NotFour
