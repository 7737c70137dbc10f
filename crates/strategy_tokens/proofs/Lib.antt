mod TokenRows
pub mod ScanLemmas
pub mod StringLemmas
pub mod MarkLemmas
pub mod PlaceLemmas
pub mod LocalLemmas
pub mod ItemLemmas
