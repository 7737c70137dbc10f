pub mod Library
pub mod Loading
