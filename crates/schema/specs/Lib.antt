-- InStore: what each lookup finds, by the words of a store and of lent rows.
pub mod InStore
pub mod MetaFields
pub mod Extensions
pub mod Owners
-- Gather: which interfaces count, as a walk over the rows finds them. Groups: groups over them.
pub mod Gather
pub mod Groups
