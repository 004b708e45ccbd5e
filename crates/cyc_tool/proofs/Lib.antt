pub mod Common
pub mod AnswerLemmas
pub mod CauseLemmas
pub mod DecisionLemmas
mod OptionLemmas
pub mod RingLemmas
pub mod RunLemmas
pub mod ExplainedLemmas
mod AssumedLemmas
mod ComparedLemmas
