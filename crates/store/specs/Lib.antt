pub mod Moving
pub mod Filing
