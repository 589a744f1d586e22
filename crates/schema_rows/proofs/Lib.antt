-- Rows: a row by its number, and searches over rows. SearchLaws: a type and under it a part.
pub mod Rows
pub mod SearchLaws
-- Refusal 26: the order of rows, a row by itself, the walk that asks both, and how many of the rows that it lets through have a card.
pub mod OrderLaws
pub mod Passing
pub mod Walk
pub mod RowsWithCards
