-- What the contracts of this crate cite.
pub mod Reports
pub mod Tells
