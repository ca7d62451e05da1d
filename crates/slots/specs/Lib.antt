pub mod Fair
pub mod Shuffle
