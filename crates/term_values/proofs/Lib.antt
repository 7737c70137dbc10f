pub mod KindLemmas
pub mod SizeLemmas
pub mod ListLemmas
pub mod PlaceLemmas
pub mod PatchLemmas
