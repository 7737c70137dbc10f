pub mod BinderLemmas
pub mod FreeLemmas
