-- The chapter: what the contracts of public functions say.
pub mod Rows
pub mod Restricted
-- The code's own: what its parts say to each other.
pub mod Steady
pub mod Models
