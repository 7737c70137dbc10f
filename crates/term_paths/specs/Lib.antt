pub mod Paths
pub mod PathText
pub mod Edits
pub mod Laws
