pub use Rattle.osal_reading.specs.Reading
pub mod Before
pub mod At
pub mod Rules
pub mod After
pub mod FirstBad
pub mod Places
