-- The chapter: what the contracts of public functions say.
pub mod Graphs
pub mod Soundness
pub mod Conjunctions
pub mod Covers
pub mod Depth
pub mod Building
pub mod Answers
pub mod Circuits
pub mod Text
pub mod Reading
-- The code's own: what its parts say to each other.
pub mod Tasks
