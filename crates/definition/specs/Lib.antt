-- What a reader has to believe: that these definitions say what 01 says, sentence by sentence, and that the contracts of the public entries promise
-- them. The entries' promises are crates/api/specs/Promised.antt, which the contracts of crates/api/src/lib.rt cite; those of the functions for C are
-- crates/gimletaspen/specs/Exported.antt and the contracts of crates/gimletaspen/src/lib.rt. All else in the repository is proved from these.
-- docs/ARCHITECTURE.md says how they hang together.
-- Lists, names and answers.
pub mod Lists
pub mod Names
pub mod NameOrders
pub mod Answers
-- Cards, and what merging documents gives.
pub mod Cards
pub mod NameFaults
pub mod Headings
pub mod Catalogue
pub mod Errors
pub mod Merge
-- The type language: its grammar and its texts, what a text is read as, and the cards of what was read (2.2). GrammarSets, Machine and the function
-- `reading` need not be believed: parser_laws proves that it comes to what Promise says, and that nothing else does.
pub mod Grammar
pub mod Derivation
pub mod Lexical
pub mod GrammarSets
pub mod Machine
pub mod ItemCards
pub mod Reading
-- What is held and where, and what is refused.
pub mod Account
pub mod Refusals
pub mod Store
pub mod LentRows
-- The public entries.
pub mod Lookups
pub mod Outcomes
-- What code tells by name, as numbers.
pub mod Numbers
-- What is promised of reading a text.
pub mod Promise
pub mod ReadCards
-- Demand 3.
pub mod Calls
pub mod Runs
pub mod Growth
pub mod Demands
-- Examples, by computation.
pub mod Unfolded
pub mod Shown
pub mod Table
pub mod Examples
pub mod ReadingExamples
