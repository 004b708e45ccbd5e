-- The chapter: what the contracts of public functions say.
pub mod Matching
pub mod Differences
pub mod Joined
pub mod Pairs
pub mod Rebound
pub mod Answers
pub mod Texts
pub mod Told
pub mod Runs
pub mod Shown
-- The code's own: what its parts say to each other.
pub mod Places
pub mod Placed
