pub mod Common
pub mod CompareLemmas
pub mod PartFunctionLemmas
pub mod BothLemmas
pub mod BoundLemmas
mod CaringLemmas
mod ApartLemmas
mod EnoughLemmas
mod LaidLemmas
mod LesserLemmas
mod PartingLemmas
