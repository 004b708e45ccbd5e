-- The chapter: what the contracts of public functions say.
pub mod Cases
pub mod Sizes
-- The code's own: what its parts say to each other.
pub mod Operands
pub mod Cofactors
pub mod Tables
pub mod Splits
pub mod Added
pub mod Cubes
pub mod Pins
pub mod Choices
pub mod CaseTables
pub mod Heads
pub mod Made
pub mod Ways
