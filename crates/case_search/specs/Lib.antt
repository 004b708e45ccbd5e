-- The chapter: what the contracts of public functions say.
pub mod Splits
-- The code's own: what its parts say to each other.
pub mod Cases
pub mod Searches
