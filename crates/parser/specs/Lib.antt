-- What the parser's functions promise.
pub mod Symbols
pub mod Headings
