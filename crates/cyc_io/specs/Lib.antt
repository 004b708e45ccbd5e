-- The chapter: what the contracts of public functions say.
pub mod Bits
pub mod Files
pub mod Faults
pub mod Counts
pub mod Taken
pub mod MemoryFiles
pub mod Memory
pub mod Text
-- The code's own: what its parts say to each other.
pub mod ReadFaults
