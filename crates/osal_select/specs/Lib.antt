pub use Rattle.osal_base.specs.Identifier
pub use Rattle.osal_base.specs.Reply
pub mod Sets
pub mod Selects
