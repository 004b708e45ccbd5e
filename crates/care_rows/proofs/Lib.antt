mod Common
pub mod RankLemmas
mod PlacedLemmas
mod AndLemmas
pub mod SteadyLemmas
mod ColumnLemmas
mod LayoutLemmas
mod TellerLemmas
mod TellLemmas
mod PlanLemmas
mod LoopFreeLemmas
mod NameLemmas
mod ValidLemmas
mod FitLemmas
mod RestrictLemmas
mod KeepLemmas
mod MadeLemmas
