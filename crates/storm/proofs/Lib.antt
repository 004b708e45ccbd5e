pub mod LeastLemmas
pub mod PlanLemmas
pub mod MomentLemmas
pub mod RoundLemmas
pub mod StormLemmas
