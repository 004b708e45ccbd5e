-- The chapter: what the contracts of public functions say.
pub mod Texts
pub mod Verdicts
pub mod LoopTexts
pub mod Ticks
pub mod Messages
pub mod Help
