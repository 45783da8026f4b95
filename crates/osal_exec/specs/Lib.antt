pub use Rattle.osal_script.specs.App
pub use Rattle.osal_script.specs.Script
pub use Rattle.osal_runs.specs.Runs
pub mod Running
pub mod Driving
pub mod Telling
