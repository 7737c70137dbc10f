pub mod Sorts
pub mod Signatures
pub mod Laws
pub mod inside
