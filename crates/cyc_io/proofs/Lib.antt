pub mod FaultLemmas
pub mod FileLemmas
pub mod ItemLemmas
pub mod TakenLemmas
