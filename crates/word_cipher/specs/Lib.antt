pub mod Words
pub mod Tables
pub mod Cipher
pub mod Schedule
pub mod Claims
