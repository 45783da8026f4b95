pub use Rattle.osal_call.specs.Call
pub mod Price
pub mod Saturated
pub mod Handlers
