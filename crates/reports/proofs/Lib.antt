-- The lemmas of this crate.
pub mod Lengths
pub mod Bytes
pub mod Tells
pub mod Figures
pub mod Apart
