-- The chapter: what the contracts of public functions say.
pub mod Kinds
pub mod Places
pub mod Faults
pub mod Statements
pub mod Models
pub mod Reads
pub mod Flattening
pub mod Find
pub mod Laws
-- The code's own: what its parts say to each other.
pub mod Answers
pub mod Running
pub mod Progress
pub mod Readers
pub mod TextFaults
pub mod Parts
