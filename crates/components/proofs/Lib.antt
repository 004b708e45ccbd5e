mod CloseLemmas
mod ExploreLemmas
mod FollowLemmas
mod ListLemmas
mod OpenLemmas
mod OrderLemmas
mod PieceLemmas
mod StepLemmas
pub mod WalkLemmas
