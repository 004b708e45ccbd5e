-- The chapter: what the contracts of public functions say.
pub mod Marks
pub mod Unrolled
pub mod Counted
pub mod Laws
-- The code's own: what its parts say to each other.
pub mod Tables
pub mod Plans
