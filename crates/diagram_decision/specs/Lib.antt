-- The chapter: what the contracts of public functions say.
pub mod Costs
pub mod Causes
pub mod Sets
pub mod Enough
pub mod Solving
pub mod Judgements
pub mod Questions
pub mod Observed
pub mod Laws
-- The code's own: what its parts say to each other.
pub mod Next
