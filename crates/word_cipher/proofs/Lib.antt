pub mod Words
pub mod Entries
pub mod Rounds
pub mod Agree
pub mod Expansion
pub mod Laws
pub mod Rows
