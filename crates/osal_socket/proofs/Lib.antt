mod Stored
mod Places
pub mod Steps
