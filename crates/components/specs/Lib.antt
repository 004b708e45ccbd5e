-- The chapter: what the contracts of public functions say.
pub mod Graphs
pub mod Orders
pub mod Pieces
-- The code's own: what its parts say to each other.
pub mod Search
