-- The chapter: what the contracts of public functions say.
pub mod Orders
pub mod Columns
pub mod Kept
pub mod Solved
pub mod Counts
pub mod Working
pub mod Laws
pub mod Sweeping
-- The code's own: what its parts say to each other.
pub mod Underway
pub mod Plans
pub mod Lifting
