-- What the contracts of this crate cite.
pub mod Verbs
pub mod Words
pub mod Faults
pub mod Requests
