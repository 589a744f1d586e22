pub mod Sound
mod Cards
mod Zero
pub mod Checked
pub mod Rows
