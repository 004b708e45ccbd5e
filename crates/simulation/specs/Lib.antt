-- The chapter: what the contracts of public functions say.
pub mod Stability
pub mod Plans
pub mod Simulators
-- The code's own: what its parts say to each other.
pub mod Listing
pub mod Marking
pub mod Rising
