pub mod ReadLemmas
pub mod LibraryLemmas
pub mod LoadingLemmas
pub mod TextLemmas
