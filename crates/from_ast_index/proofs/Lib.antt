-- Lists, then what the arrays hold. Each file comes after those that it leans on.
pub mod Lists
pub mod Search
pub mod Laws
pub mod Spans
pub mod Cards
