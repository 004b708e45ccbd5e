pub mod AddLemmas
pub mod ClauseLemmas
pub mod GrowthLemmas
