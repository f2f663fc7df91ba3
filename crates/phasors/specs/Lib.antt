pub mod Complex
pub mod Phasors
pub mod Distances
