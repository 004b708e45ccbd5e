-- The chapter: what the contracts of public functions say.
pub mod Verdicts
pub mod Determination
pub mod Witnessed
-- The code's own: what its parts say to each other.
pub mod Fanout
pub mod Invariance
pub mod Questions
pub mod Scopes
pub mod Unknown
pub mod Loose
pub mod Determinacy
pub mod Pieces
