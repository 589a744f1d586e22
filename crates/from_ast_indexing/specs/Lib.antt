-- What filling the arrays asks, and what each step does.
pub mod Steps
pub mod Entering
pub mod Types
pub mod Extensions
