pub mod Refusal
pub mod Modules
pub mod Sorting
pub mod Kept
pub mod inside
