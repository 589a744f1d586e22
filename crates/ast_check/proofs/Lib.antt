-- Told is for callers.
mod Walk
pub mod Told
