pub mod Adding
pub mod Codes
pub mod Giving
pub mod View
