pub mod ResolveLemmas
pub mod SessionLemmas
pub mod PlanLemmas
pub mod ApplyLemmas
pub mod PreviewLemmas
