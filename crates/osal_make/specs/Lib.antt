pub use Rattle.osal_reading.specs.Reading
pub use Rattle.osal_script.specs.Cost
pub mod MakeText
pub mod Items
pub mod Made
