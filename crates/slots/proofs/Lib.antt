pub mod Sums
pub mod LeastBits
pub mod Fair
pub mod Counts
pub mod Rearrange
pub mod Draws
pub mod NoRepeat
pub mod Laws
