-- The chapter: what the contracts of public functions say.
pub mod LoopsAt
pub mod Simulations
pub mod Sweeping
pub mod Climbing
pub mod Known
-- The code's own: what its parts say to each other.
pub mod Readers
pub mod Upstream
pub mod Events
