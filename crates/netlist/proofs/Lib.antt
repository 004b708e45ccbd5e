pub mod CopyLemmas
pub mod Decisions
pub mod Differ
pub mod FixpointLemmas
pub mod GraphLemmas
pub mod NameLemmas
pub mod Repeats
pub mod Validity
