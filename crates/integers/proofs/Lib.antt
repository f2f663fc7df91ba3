pub mod Signs
pub mod Lengths
mod Truncations
pub mod Rounds
pub mod Rises
mod Joins
pub mod Alignments
