-- The chapter: what the contracts of public functions say.
pub mod Least
pub mod Plans
pub mod Storms
pub mod Laws
-- The code's own: what its parts say to each other.
pub mod Building
