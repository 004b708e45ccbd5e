pub mod Common
mod AgeLemmas
mod FaultlessLemmas
mod FitLemmas
mod GateLemmas
mod LevelLemmas
mod NamedLemmas
mod NumberLemmas
mod PieceLemmas
mod ReadingLemmas
mod SaidLemmas
mod ScheduleLemmas
mod StartLemmas
mod VectorLemmas
mod WrittenLines
mod WrittenNumbers
mod WrittenTexts
