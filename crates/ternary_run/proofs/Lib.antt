mod Lists
pub mod ReadingLemmas
pub mod SettlingLemmas
