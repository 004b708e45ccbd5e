pub mod Common
pub mod NameLemmas
pub mod PartLemmas
pub mod MatchLemmas
pub mod LoopLemmas
pub mod JoinLemmas
pub mod MiterLemmas
pub mod DifferenceLemmas
pub mod ComparisonLemmas
pub mod PlacedLemmas
pub mod ValidLemmas
pub mod LatchlessLemmas
pub mod ReboundLemmas
mod RenamingLemmas
pub mod RunLemmas
pub mod ShownLemmas
