pub mod BindingLemmas
pub mod CareLemmas
pub mod FaultLemmas
pub mod ModelLemmas
pub mod NameLemmas
