pub mod ReadTerms
pub mod ReadStrings
