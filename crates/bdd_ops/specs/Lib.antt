-- The chapter: what the contracts of public functions say.
pub mod Least
pub mod Operations
-- The code's own: what its parts say to each other.
pub mod Apply
pub mod Choices
pub mod Possible
pub mod Steps
pub mod Turns
