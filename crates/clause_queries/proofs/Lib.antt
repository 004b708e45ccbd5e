pub mod AnswerLemmas
pub mod BisectionLemmas
pub mod ClauseLemmas
pub mod DescentLemmas
pub mod EachLemmas
pub mod NameLemmas
pub mod NeverLemmas
pub mod VectorLemmas
