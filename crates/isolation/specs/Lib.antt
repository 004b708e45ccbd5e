-- The chapter: what the contracts of public functions say.
pub mod Excerpts
pub mod Settled
pub mod Alone
pub mod Unsettled
pub mod Laws
pub mod Building
-- The code's own: what its parts say to each other.
pub mod Settling
