pub mod ChangeLemmas
pub mod Common
mod EndLemmas
mod EntryLemmas
mod EventListLemmas
pub mod FairLemmas
mod HistoryLemmas
mod PlanLemmas
pub mod PlayLemmas
mod ReadingLemmas
mod UnfairLemmas
mod WholeLemmas
