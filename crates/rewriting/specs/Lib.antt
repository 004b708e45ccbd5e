-- The chapter: what the contracts of public functions say.
pub mod Rewriting
pub mod Graphs
pub mod Laws
