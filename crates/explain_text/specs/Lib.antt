-- The chapter: what the contracts of public functions say.
pub mod Columns
pub mod Lines
pub mod Graphs
pub mod Explanations
