-- What a function promises that reads parts with cards.
pub mod Lists
pub mod Names
pub mod Definitions
pub mod Braces
pub mod Operations
