pub use Rattle.osal_reading.specs.Reading
pub mod Shortest
pub mod Words
pub mod Subjects
pub mod PrintText
pub mod Again
