pub mod Common
pub mod ColumnLemmas
pub mod LoopTextLemmas
