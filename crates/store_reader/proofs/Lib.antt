-- Laws, Words and Group are for callers; the others serve them.
pub mod Lists
pub mod Sound
pub mod Fine
pub mod Laid
pub mod Group
pub mod DocumentsLaws
pub mod Spans
pub mod Words
pub mod Laws
mod Cards
