pub mod Counting
pub mod Each
pub mod Kept
pub mod Attached
pub mod FewFire
pub mod Window
