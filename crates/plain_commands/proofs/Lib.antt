mod Common
pub mod PlanLemmas
mod ReadingLemmas
mod ReplayLemmas
mod StormLemmas
pub mod TellLemmas
mod TickLemmas
mod HearLemmas
