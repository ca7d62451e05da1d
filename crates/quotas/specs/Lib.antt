pub mod Records
pub mod Charges
pub mod Entries
pub mod Left
pub mod Runs
