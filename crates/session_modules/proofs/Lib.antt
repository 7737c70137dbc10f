pub mod MapLemmas
pub mod ReplacedLemmas
pub mod ReadingLemmas
pub mod CacheLemmas
pub mod SortingLemmas
