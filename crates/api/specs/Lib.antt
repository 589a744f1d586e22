-- What each entry promises, and that it is what demand 3 speaks of.
pub mod Promised
pub mod Statements
pub mod Entries
-- What every lookup refuses first, and what a drawing refuses.
pub mod LookupRefusal
pub mod BuildRefusal
-- The numbers of an answer that is an enum.
pub mod Answered
