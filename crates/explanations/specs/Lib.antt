-- The chapter: what the contracts of public functions say.
pub mod Matters
pub mod Pins
pub mod Held
pub mod Sides
pub mod Explained
pub mod Laws
-- The code's own: what its parts say to each other.
pub mod Graph
pub mod Cycles
pub mod Search
