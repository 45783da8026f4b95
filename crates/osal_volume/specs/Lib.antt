pub mod Faults
pub mod Volume
pub mod Steps
pub mod Renames
pub mod Code
pub mod Whole
pub mod Listing
pub mod Copies
