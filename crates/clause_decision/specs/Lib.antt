-- The chapter: what the contracts of public functions say.
pub mod Cones
pub mod Changes
pub mod Scopes
pub mod Loads
pub mod Tests
pub mod Witnesses
-- The code's own: what its parts say to each other.
pub mod Formulas
pub mod NextStates
pub mod Questions
pub mod Starts
pub mod Sweepings
pub mod Countings
pub mod Unknowns
