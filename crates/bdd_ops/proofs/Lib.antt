mod ApplyLemmas
pub mod ChainLemmas
mod ComputedLemmas
mod LeastLemmas
mod OperationLemmas
mod ChoiceLemmas
pub mod PossibleLemmas
mod ReadLemmas
mod DecideLemmas
mod RootLemmas
mod SlotLemmas
mod StepLemmas
