pub mod Following
pub mod Entries
pub mod Keeping
