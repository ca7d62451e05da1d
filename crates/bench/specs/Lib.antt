pub mod Hexadecimal
pub mod Frames
pub mod Buffers
pub mod Lines
pub mod Input
pub mod Model
pub mod Statements
pub mod Examples
