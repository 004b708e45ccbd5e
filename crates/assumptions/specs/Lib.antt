-- The chapter: what the contracts of public functions say.
pub mod Assumptions
pub mod Limits
pub mod Laws
-- The code's own: what its parts say to each other.
pub mod Making
pub mod Implied
