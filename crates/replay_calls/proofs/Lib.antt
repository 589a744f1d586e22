-- A line's words and numbers.
pub mod LineWords
