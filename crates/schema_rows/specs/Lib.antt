-- Refusal 26 as one walk asks it.
pub mod Walk
-- What the searches over lent rows find.
pub mod Rows
pub mod Search
-- What refusal 26 asks of the order of rows, and of a row by itself.
pub mod Order
pub mod Places
pub mod Passing
