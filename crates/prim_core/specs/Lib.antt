pub mod Signature
pub mod Computes
pub mod Values
pub mod Integers
pub mod Strings
pub mod Standard
pub mod StandardTable
