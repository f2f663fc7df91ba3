mod Outcomes
pub mod FewTurns
mod Steps
mod Laws
