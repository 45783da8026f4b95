pub use Rattle.osal_script.specs.App
pub mod Draft
pub mod Blocks
pub mod Reading
pub mod Outcome
pub mod Fault
