-- How much is counted. What the calls themselves promise stands with the entries.
pub mod Counted
