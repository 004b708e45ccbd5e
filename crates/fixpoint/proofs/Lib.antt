pub mod Common
mod CountLemmas
mod CompareLemmas
pub mod WireLemmas
mod SweepLemmas
pub mod CutLemmas
mod LoopLemmas
mod BlockLemmas
mod MinimumLemmas
pub mod WorkLemmas
pub mod ToldLemmas
pub mod WorkingLemmas
pub mod ColumnLemmas
mod CostLemmas
mod BoundLemmas
mod SolutionLemmas
pub mod EffortLemmas
mod LiftLemmas
pub mod OrderLemmas
pub mod LayoutLemmas
pub mod KeptLemmas
mod KeepingLemmas
