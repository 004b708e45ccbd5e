-- The chapter: what the contract of `run` says.
pub mod Endings
pub mod Answer
pub mod Calls
pub mod Causes
-- The code's own: what its parts say to each other.
pub mod Problems
pub mod Seen
