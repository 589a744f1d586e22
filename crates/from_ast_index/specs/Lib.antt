-- What the arrays hold that build reads.
pub mod Index
