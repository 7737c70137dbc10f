pub mod PatternLemmas
pub mod StrategyLemmas
pub mod ResolvedPatternLemmas
pub mod ResolvedLemmas
pub mod RenumberingLemmas
pub mod SkippingLemmas
