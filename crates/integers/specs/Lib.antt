pub mod Terms
pub mod Rounding
pub mod Sums
