pub mod Applies
pub mod Laws
pub mod Planning
pub mod Ends
pub mod inside
