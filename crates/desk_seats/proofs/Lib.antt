mod Taken
pub mod Cuts
pub mod Tests
