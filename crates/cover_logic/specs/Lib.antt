-- The chapter: what the contracts of public functions say.
pub mod Covers
pub mod Extensions
pub mod Laws
pub mod Partial
-- The code's own: what its parts say to each other.
pub mod Held
