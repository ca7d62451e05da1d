pub mod States
pub mod Walks
pub mod Numbers
pub mod Cutting
pub mod Failing
pub mod Closed
pub mod Examples
