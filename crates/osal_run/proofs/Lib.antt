pub mod Complete
pub mod Finishing
pub mod Left
pub mod Loaded
pub mod Nothing
pub mod Pieces
pub mod Workers
