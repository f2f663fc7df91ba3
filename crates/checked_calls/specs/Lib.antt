pub mod Calls
pub mod Examples
