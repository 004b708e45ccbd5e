-- The chapter: what a call asks for, and what it does for its command.
pub mod Requests
pub mod Simulation
pub mod Plays
pub mod Plans
pub mod Texts
pub mod Storms
pub mod Shelves
pub mod Sinks
-- The code's own: what its parts say to each other.
pub mod Reading
pub mod Hearing
pub mod Seen
