-- The chapter: what the contracts of public functions say.
pub mod Hearing
pub mod Texts
pub mod Showing
pub mod Values
pub mod Codes
pub mod Dumps
pub mod Kinds
pub mod Reading
-- The code's own: what its parts say to each other.
pub mod Tables
