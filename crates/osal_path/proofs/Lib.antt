pub mod Positions
pub mod Cuts
pub mod Named
pub mod Distinct
pub mod Mounted
