-- What the lexer's functions promise.
pub mod Ahead
pub mod Characters
pub mod Comments
pub mod Lexemes
pub mod Measures
pub mod Numbers
pub mod Places
pub mod Sorts
pub mod Strings
pub mod Words
