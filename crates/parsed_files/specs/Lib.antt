-- The chapter: what the contracts of public functions say.
pub mod Faults
pub mod NetlistFiles
pub mod CareFiles
pub mod CareTexts
pub mod ScheduleFiles
pub mod Seen
