pub mod FirstLemmas
pub mod LawLemmas
pub mod ObservedLemmas
pub mod RefusalLemmas
pub mod ShowingLemmas
pub mod VectorLemmas
