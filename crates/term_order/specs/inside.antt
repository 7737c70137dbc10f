pub mod Roots
pub mod Parts
