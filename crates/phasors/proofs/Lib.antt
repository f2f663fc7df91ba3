pub mod Lengths
pub mod Gaussian
pub mod Turns
pub mod Fresh
