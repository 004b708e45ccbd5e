-- The chapter: what the contracts of public functions say.
pub mod Plays
pub mod Plans
pub mod Changes
pub mod EventLists
pub mod Laws
pub mod ScheduledRuns
-- The code's own: what its parts say to each other.
pub mod Entries
pub mod Timelines
