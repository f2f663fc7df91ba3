-- The lemmas of this crate.
pub mod Naturals
pub mod Integers
pub mod Numerals
pub mod Texts
