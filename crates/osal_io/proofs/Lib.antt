mod Opened
mod Waited
pub mod Below
pub mod Makes
pub mod FileSteps
pub mod Systems
pub mod StreamSteps
pub mod Nodes
pub mod Directories
pub mod Held
pub mod Tried
pub mod StreamCalls
pub mod SelectSteps
pub mod IoSteps
pub mod Awaits
pub mod AnyTurns
pub mod StreamWaits
pub mod Stale
pub mod Known
