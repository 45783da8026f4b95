pub mod Appended
pub mod Found
pub mod Told
