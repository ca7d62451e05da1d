pub mod Trying
pub mod Shuffling
pub mod Copies
pub mod LongCopies
pub mod Answers
