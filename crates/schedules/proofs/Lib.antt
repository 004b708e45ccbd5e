pub mod CareLemmas
pub mod EventLemmas
pub mod ExistenceLemmas
pub mod HarmlessLemmas
pub mod MachineLemmas
pub mod RoundLemmas
pub mod RunLemmas
pub mod SameLemmas
