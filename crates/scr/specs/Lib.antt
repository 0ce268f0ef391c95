pub mod Reads
pub mod Writes
