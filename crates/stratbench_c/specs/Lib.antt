pub mod Status
pub mod Runs
pub mod Loads
