pub mod Ring
pub mod Messages
pub mod Stored
