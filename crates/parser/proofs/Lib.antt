-- How a definition comes to its card, and a text to its reading.
pub mod Headings
pub mod ByKind
pub mod Locations
pub mod Documents
pub mod Outcomes
