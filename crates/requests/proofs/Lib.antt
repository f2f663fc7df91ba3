mod Verbs
mod Words
pub mod Requests
