pub use Rattle.osal_call.specs.Call
pub use Rattle.osal_object.specs.Objects
pub mod Console
