pub mod FlagLemmas
pub mod LineRows
pub mod NamedLemmas
pub mod NumberLemmas
