-- What the errors of a build are, in terms of cards and rows.
pub mod ErrorsByCards
pub mod Placing
pub mod Pushing
pub mod Earlier
pub mod Views
