pub use Rattle.osal_base.specs.Identifier
pub mod Slots
