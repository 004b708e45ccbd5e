-- The chapter: what the contracts of public functions say.
pub mod Walks
pub mod Blocks
pub mod Cuts
pub mod Sweeps
pub mod Orders
pub mod Found
pub mod Laws
pub mod Looped
pub mod Links
pub mod Placing
pub mod Rows
pub mod Listed
pub mod Numbered
pub mod Left
pub mod Cones
-- The code's own: what its parts say to each other.
pub mod Members
