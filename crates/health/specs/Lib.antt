pub mod Samples
pub mod Calls
pub mod Statements
pub mod Closed
pub mod Examples
