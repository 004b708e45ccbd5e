-- The chapter: what the contracts of public functions say.
pub mod Care
pub mod Binding
pub mod Laws
