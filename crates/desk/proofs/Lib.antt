pub mod Exits
mod Lent
