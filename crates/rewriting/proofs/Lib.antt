mod AgreeLemmas
mod CoverLemmas
mod CaseLemmas
pub mod RewrittenLemmas
mod GraphLemmas
