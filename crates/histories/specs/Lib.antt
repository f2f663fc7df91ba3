pub mod Histories
pub mod Tracking
