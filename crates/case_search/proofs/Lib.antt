pub mod KeptLemmas
mod ShownLemmas
pub mod SplitLemmas
