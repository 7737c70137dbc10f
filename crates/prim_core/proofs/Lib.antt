pub mod SignatureLemmas
pub mod IntegerLemmas
pub mod StandardRows
