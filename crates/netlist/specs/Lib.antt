-- The chapter: what the contracts of public functions say.
pub mod Netlists
pub mod Faults
pub mod Fixpoint
pub mod Pairs
pub mod Walks
pub mod Orders
pub mod Laws
-- The code's own: what its parts say to each other.
pub mod Naming
