-- What the parser's functions promise.
pub mod Depths
pub mod Errors
pub mod Parentheses
pub mod Reads
