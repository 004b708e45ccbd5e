-- The chapter: what the contracts of public functions say.
pub mod Clauses
pub mod Queries
pub mod Vectors
pub mod Laws
pub mod Each
pub mod Loaded
pub mod Names
-- The code's own: what its parts say to each other.
pub mod Bisection
pub mod Descent
