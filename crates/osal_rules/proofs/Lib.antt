pub mod Bodies
pub mod Calls
pub mod Lines
pub mod Told
pub mod Found
