pub use Rattle.osal_call.specs.Call
pub use Rattle.osal_idtable.specs.Table
pub use Rattle.osal_task.specs.Tasks
pub use Rattle.osal_task.specs.Delays
pub use Rattle.osal_task.specs.Calls as TaskCalls
pub use Rattle.osal_queue.specs.Queue
pub use Rattle.osal_queue.specs.Queues
pub use Rattle.osal_sem.specs.Counting
pub use Rattle.osal_sem.specs.Binary
pub use Rattle.osal_mutex.specs.Mutexes
pub use Rattle.osal_condvar.specs.Condvars
pub use Rattle.osal_time.specs.Time
pub use Rattle.osal_time.specs.Ticks
pub use Rattle.osal_time.specs.Timers
pub use Rattle.osal_time.specs.Calls as TimeCalls
pub use Rattle.osal_io.specs.Io
pub use Rattle.osal_io.specs.Calls as IoCalls
pub use Rattle.osal_console.specs.Console
pub mod Parts
pub mod Step
pub mod OpenWaits
pub mod Deadlines
pub mod Views
pub mod AnyPart
pub mod History
