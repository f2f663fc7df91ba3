-- What the contracts of this crate cite.
pub mod Places
pub mod Rows
pub mod Batches
pub mod Telling
