-- How a reading that has come to a place of a text ends: what the contracts of the parser's functions are made of.
pub mod Verdict
pub mod Standing
