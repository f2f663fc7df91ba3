pub mod Kinds
pub mod Constants
