pub use Rattle.osal_machine.specs.Step
pub use Rattle.osal_machine.specs.History
pub mod Laws
pub mod Steps
pub mod Values
pub mod Holds
pub mod QueueLaw
pub mod ConsoleText
