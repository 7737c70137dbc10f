pub mod Foreseen
pub mod Held
pub mod Resolved
