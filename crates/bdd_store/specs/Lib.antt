-- The chapter: what the contracts of public functions say.
pub mod Arena
pub mod Soundness
pub mod Subfunctions
pub mod Growth
pub mod Sweeping
-- The code's own: what its parts say to each other.
pub mod Branches
pub mod Renumbering
