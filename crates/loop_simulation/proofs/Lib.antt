mod Common
mod EventLemmas
pub mod LoopLemmas
pub mod NeededLemmas
mod ReaderLemmas
mod SimulationLemmas
