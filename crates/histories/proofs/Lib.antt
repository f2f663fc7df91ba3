pub mod Faults
pub mod Tracking
