pub mod Common
pub mod NodeLemmas
mod Samples
pub mod ValueLemmas
mod CanonicalLemmas
pub mod BranchLemmas
mod MakeLemmas
pub mod SubfunctionLemmas
pub mod PigeonholeLemmas
pub mod GrowthLemmas
pub mod AnswerLemmas
mod MarkLemmas
mod RenumberLemmas
mod RootLemmas
mod SweepLemmas
