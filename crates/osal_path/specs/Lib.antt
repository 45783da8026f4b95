pub use Rattle.osal_base.specs.Name
pub mod Path
pub mod Mounts
pub mod Entries
