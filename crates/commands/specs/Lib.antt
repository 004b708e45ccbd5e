-- The chapter: what the contracts of public functions say.
pub mod Words
pub mod Seen
