-- The chapter: what the contracts of public functions say.
pub mod Rails
pub mod Local
pub mod WorkingLists
-- The code's own: what its parts say to each other.
pub mod Expansion
pub mod Classes
pub mod Memo
pub mod Lifts
