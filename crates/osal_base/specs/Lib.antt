pub mod Status
pub mod Identifier
pub mod Name
pub mod Text
pub mod Time
pub mod Reply
pub mod Limits
