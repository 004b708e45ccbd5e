-- The chapter: what the contracts of public functions say.
pub mod Texts
pub mod Reading
pub mod Faults
pub mod Lines
pub mod Parts
-- The code's own: what its parts say to each other.
pub mod WordBuffers
pub mod LineBuffers
pub mod Marks
pub mod Readers
