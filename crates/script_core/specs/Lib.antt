pub mod Ran
pub mod Status
pub mod inside
