-- The chapter: what the contracts of public functions say.
pub mod Wires
pub mod Paths
pub mod Instances
pub mod Walk
pub mod Linking
pub mod Flat
pub mod Laws
-- The code's own: what its parts say to each other.
pub mod Alone
pub mod Counting
pub mod Drivers
pub mod Hierarchies
pub mod Levels
pub mod Printable
