-- The chapter: what the contracts of public functions say.
pub mod Formulas
