pub mod Alone
pub mod Fails
