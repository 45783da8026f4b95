pub mod Repeats
pub mod Begun
pub mod Lookups
pub mod Later
pub mod Sound
