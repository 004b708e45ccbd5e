pub mod Common
mod GraphLemmas
mod MarkLemmas
