pub mod Numbers
pub mod Running
pub mod Telling
pub mod Batches
