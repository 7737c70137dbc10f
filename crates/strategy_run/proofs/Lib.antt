pub mod EndLemmas
pub mod ApplyLemmas
pub mod PlanLemmas
