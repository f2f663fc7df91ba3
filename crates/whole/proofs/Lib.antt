pub mod Integers
pub mod Linear
pub mod Powers
pub mod Comparisons
pub mod Distances
pub mod Polynomials
pub mod Identities
