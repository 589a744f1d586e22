pub mod Checks
pub mod Neighbours
