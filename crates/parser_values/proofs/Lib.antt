-- How what functions promise of parts is put together to what they promise of more.
pub mod Joining
pub mod Readers
pub mod TypeReferences
pub mod ReadValues
pub mod Parts
