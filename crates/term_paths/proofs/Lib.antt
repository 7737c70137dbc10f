pub mod PathLemmas
pub mod ApartLemmas
pub mod StepLemmas
pub mod LawLemmas
pub mod WithinLemmas
pub mod EditLemmas
mod OutermostLemmas
pub mod TextLemmas
