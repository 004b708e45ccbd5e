pub mod Common
mod ReachLemmas
mod ReadLemmas
mod LineLemmas
mod GraphLemmas
