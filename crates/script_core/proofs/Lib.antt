pub mod AnswerLemmas
pub mod RunningLemmas
pub mod PreviewLemmas
