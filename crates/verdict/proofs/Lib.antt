mod BeginningLemmas
mod CandidateLemmas
pub mod Common
mod DeterminationLemmas
mod FanoutLemmas
mod InvarianceLemmas
mod LooseLemmas
mod PieceLemmas
mod ScopeLemmas
pub mod WitnessLemmas
