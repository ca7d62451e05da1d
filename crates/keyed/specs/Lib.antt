pub mod Scheduler
pub mod State
pub mod Refusals
pub mod Effects
pub mod Calls
pub mod Entries
pub mod Promises
