-- What code reads of a store, in the definitions' terms.
pub mod Stored
-- What code reads of a card.
pub mod Cards
-- What code reads of a document's row.
pub mod Rows
