pub use Rattle.osal_price.specs.Price
pub use Rattle.osal_script.specs.App
pub use Rattle.osal_script.specs.Cost
pub use Rattle.osal_script.specs.Nesting
pub mod Nested
