pub mod Fours
pub mod Methods
pub mod Kahan
pub mod Symmetric
pub mod Accuracy
