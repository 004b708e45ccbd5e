mod ByClausesLemmas
mod RefusedLemmas
mod ClauseLemmas
