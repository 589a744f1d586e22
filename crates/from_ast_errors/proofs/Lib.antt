pub mod Definitions
pub mod Fits
pub mod Written
