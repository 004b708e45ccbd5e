pub mod CareLemmas
pub mod ErrorLemmas
pub mod FlatLemmas
pub mod NetlistLemmas
pub mod ScheduleLemmas
pub mod CareTextLemmas
