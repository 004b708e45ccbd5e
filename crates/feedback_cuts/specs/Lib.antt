-- The code's own: what its parts say to each other.
pub mod Searching
pub mod Landmarks
pub mod Keeping
