pub mod Field
pub mod Aes
pub mod Claims
