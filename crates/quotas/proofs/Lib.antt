pub mod Lists
pub mod Places
pub mod Charging
pub mod Checking
pub mod Entries
pub mod Runs
pub mod Left
pub mod Isolation
