pub mod Flat
pub mod Unique
pub mod Nestings
