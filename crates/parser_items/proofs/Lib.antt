-- How cards are written, and how what functions promise of parts with cards is put together.
pub mod Writing
pub mod Beginning
pub mod Joining
pub mod Items
pub mod Joined
