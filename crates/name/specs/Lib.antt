-- What is handed back of a text, and the hash of a name.
pub mod Parts
pub mod Hashes
