mod MarkLemmas
mod MatchLemmas
mod BuildLemmas
