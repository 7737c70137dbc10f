pub mod Declaring
pub mod Replaced
