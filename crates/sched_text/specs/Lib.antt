-- The chapter: what the contracts of public functions say.
pub mod Numbers
pub mod Kinds
pub mod LineFaults
pub mod Statements
pub mod Fitting
pub mod Written
pub mod Faults
pub mod Vectors
pub mod Schedules
pub mod Putting
pub mod ReadingBack
-- The code's own: what its parts say to each other.
pub mod Answers
pub mod Running
pub mod Pieces
pub mod ReadingOn
