-- What the walks do, turn by turn; and, in Told, that the arrays then hold what the headings say.
pub mod HashLaws
pub mod Headings
pub mod Hints
pub mod EntrySearch
pub mod EntryNames
pub mod TypesTurns
pub mod ExtensionsTurns
pub mod SpansWalks
pub mod Owners
pub mod Told
