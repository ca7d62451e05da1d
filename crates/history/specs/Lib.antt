pub mod Strings
pub mod Reader
pub mod Statements
pub mod Runs
pub mod RunStatements
pub mod Examples
