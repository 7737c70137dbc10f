pub mod Finding
pub mod Runs
