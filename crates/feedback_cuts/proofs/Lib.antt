pub mod Common
pub mod SearchLemmas
pub mod KeptLemmas
pub mod LandmarkLemmas
pub mod CutLemmas
