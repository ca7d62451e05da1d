pub mod Counter
pub mod Steps
pub mod Closed
pub mod Refusals
pub mod Operations
pub mod Statements
pub mod Boundaries
