-- The chapter: what the contracts of public functions say.
pub mod Moments
pub mod Fairness
pub mod Runs
pub mod Settling
pub mod Laws
pub mod Machines
pub mod Accepted
pub mod Harmless
