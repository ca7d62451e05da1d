pub mod Digits
pub mod Steps
pub mod Accepted
pub mod Effects
pub mod Statements
pub mod Boundaries
pub mod Runs
pub mod PublishedVector
