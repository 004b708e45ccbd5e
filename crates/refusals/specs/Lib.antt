-- The chapter: what the contracts of public functions say.
pub mod Vectors
pub mod Acceptance
pub mod Refusals
pub mod Tests
pub mod Laws
