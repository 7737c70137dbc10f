pub mod NameLemmas
pub mod SameName
pub mod TreeLemmas
pub mod TermLemmas
pub mod Limits
