pub mod Lined
pub mod ReadPatches
pub mod Told
pub mod NamedPairs
