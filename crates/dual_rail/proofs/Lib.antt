pub mod Common
mod ClassLemmas
mod EndLemmas
mod ExpansionLemmas
mod LiveLemmas
mod MemoLemmas
pub mod SizeLemmas
pub mod SurelyLemmas
pub mod WidthLemmas
mod TableLemmas
mod LocalLemmas
