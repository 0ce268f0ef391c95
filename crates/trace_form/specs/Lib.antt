pub mod Entries
pub mod Judged
