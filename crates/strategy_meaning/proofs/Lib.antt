pub mod SameLemmas
pub mod Related
pub mod Elsewhere
pub mod StepLemmas
pub mod Composes
pub mod HeightLemmas
pub mod EditLemmas
mod AppliedLemmas
mod UsualLemmas
pub mod RowTerms
pub mod MeaningRows
pub mod CallRows
pub mod AppliedRows
pub mod LongRows
