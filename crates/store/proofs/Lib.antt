mod Clean
mod Allowed
mod Entries
mod Copied
mod Moved
pub mod Filed
