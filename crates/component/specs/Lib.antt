-- What pushes of rows are held to, and the rows by the numbers of cards.
pub mod Pushed
pub mod RowsByCards
