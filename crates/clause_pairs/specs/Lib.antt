-- The chapter: what the contracts of public functions say.
pub mod Apart
pub mod Cubes
-- The code's own: what its parts say to each other.
pub mod Missing
pub mod Pairs
