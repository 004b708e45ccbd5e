-- The chapter: what the contracts of public functions say.
pub mod Cases
-- The code's own: what its parts say to each other.
pub mod Beginnings
