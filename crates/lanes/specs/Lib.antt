pub mod Lanes
pub mod Turning
