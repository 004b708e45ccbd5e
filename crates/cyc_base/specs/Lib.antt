-- The chapter: what the contracts of public functions say.
pub mod Names
pub mod Tildes
pub mod Values
pub mod Order
pub mod Vectors
-- The code's own: what its parts say to each other.
pub mod Held
