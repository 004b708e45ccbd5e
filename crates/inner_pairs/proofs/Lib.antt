mod Common
pub mod AlikeLemmas
mod CaseLemmas
mod BeginningLemmas
pub mod ScopeLemmas
