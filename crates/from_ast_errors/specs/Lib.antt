pub mod Views
pub mod Written
