pub mod CareLemmas
pub mod CauseLemmas
pub mod Common
pub mod CountLemmas
mod DecisionLemmas
pub mod EnoughLemmas
mod LeavesLemmas
pub mod MadeLemmas
mod MarkLemmas
mod NextLemmas
pub mod PartLemmas
pub mod SetLemmas
pub mod SignalLemmas
mod SizeLemmas
mod SolutionLemmas
mod SolvingLemmas
mod StartLemmas
pub mod VerdictLemmas
pub mod WorkLemmas
