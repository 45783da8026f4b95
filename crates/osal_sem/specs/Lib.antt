pub use Rattle.osal_call.specs.Call
pub use Rattle.osal_idtable.specs.Table
pub use Rattle.osal_idtable.specs.Steps
pub use Rattle.osal_object.specs.Objects
pub use Rattle.osal_object.specs.Waits
pub use Rattle.osal_object.specs.Deadlines
pub mod Binary
pub mod Counting
