pub mod Points
pub mod DeviceNames
pub mod Sorted
pub mod Listings
mod Same
mod Copies
mod Renames
mod Written
