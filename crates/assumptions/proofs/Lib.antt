pub mod PinLemmas
pub mod RowLemmas
pub mod CareLemmas
pub mod FoundLemmas
pub mod ImpliedLemmas
pub mod LimitLemmas
pub mod LawLemmas
