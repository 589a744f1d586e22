-- Pushes of rows and walks that make them; then, that the rows by the numbers of cards are those of the definitions.
pub mod Pushing
pub mod Sticky
pub mod Listed
pub mod Turns
pub mod Matching
pub mod Blocks
pub mod Directives
pub mod SchemaLists
pub mod Loops
