mod Bytes
mod Records
mod Formed
mod Change
mod Settle
mod Step
mod Runs
pub mod Claims
