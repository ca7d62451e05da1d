pub mod Texts
pub mod Logs
pub mod Pieces
pub mod Promises
pub mod Statements
pub mod Examples
