-- The numbers that the entries refuse with, return by return, and what holds where they refuse nothing.
pub mod LookupRefusal
pub mod ListRefusal
pub mod BuildRefusal
-- The entries' outcomes by that one number.
pub mod LookupOutcomes
pub mod ListOutcomes
pub mod BuildOutcomes
pub mod RootOutcomes
-- Demand 3, of the entries.
pub mod EntriesAgree
