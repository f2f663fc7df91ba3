pub mod Figures
pub mod Operations
pub mod Consoles
