-- What the contracts of this crate cite.
pub mod Names
pub mod Operations
