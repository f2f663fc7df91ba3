pub mod Exact
pub mod Digits
pub mod Rounding
pub mod Nearest
pub mod Refusals
pub mod Operations
pub mod Errors
