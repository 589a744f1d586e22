mod Searches
pub mod Alone
pub mod Fails
