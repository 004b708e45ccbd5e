-- The chapter: what the contracts of public functions say.
pub mod Dot
pub mod LoopGraphs
pub mod RefusalGraphs
pub mod ExplanationGraphs
-- The code's own: what its parts say to each other.
pub mod Seen
pub mod Marks
