-- The chapter: what the contracts of public functions say.
pub mod Reading
pub mod Settling
pub mod Ticks
