pub mod HeightLemmas
pub mod OrderLemmas
pub mod PartLemmas
pub mod TableLemmas
pub mod ShapeLemmas
