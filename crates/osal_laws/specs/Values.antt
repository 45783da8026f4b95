-- The limits to which the values of objects keep in every history.
use Rattle.std.specs.Prelude.{◌≡◌, ◌≤◌, ℕ, List, length, Some}
use Rattle.std.specs.List.{AllByRecursion}
use Rattle.osal_base.specs.declared.limits.Limits.{Limits}
use Rattle.osal_base.specs.Limits.{lowest_priority}
use Rattle.osal_idtable.specs.Table.{Active}
use Rattle.osal_task.specs.declared.part.Task.{Task}
use Rattle.osal_task.specs.Tasks.{task_at}
use Rattle.osal_queue.specs.Queue.{Queue}
use Rattle.osal_queue.specs.Queues.{queue_at}
use Rattle.osal_sem.specs.declared.counting.CountSem.{CountSem}
use Rattle.osal_sem.specs.Counting.{count_sem_at, value_limit}
use Rattle.osal_mutex.specs.declared.mutex.Lock.{Lock}
use Rattle.osal_mutex.specs.declared.mutex.Lock.TheVariants as lock
use Rattle.osal_mutex.specs.declared.mutex.Mutex.{Mutex}
use Rattle.osal_mutex.specs.Mutexes.{mutex_at, nesting_limit}
use Rattle.osal_call.specs.declared.call.Entry.{Entry}
use Rattle.osal_machine.specs.Parts.{PartState, Tasks, Queues, CountSems, Mutexes}
use Rattle.osal_machine.specs.Step.{part_in}
use Rattle.osal_machine.specs.History.{replay}

-- a task has a priority of at most 255
abbrev pub HasPriority : Task → Type 0
HasPriority task = task.priority ≤ lowest_priority

-- a queue holds at most as many messages as its depth, each of one byte at least and of its size at most
pub record IsFilled (queue : Queue) : Type 0 where
  pub few : length queue.messages ≤ queue.depth
  pub each : AllByRecursion (λ message. (1 ≤ length message) × (length message ≤ queue.size)) queue.messages

-- a counting semaphore has a value of at most 32,767
abbrev pub HasValue : CountSem → Type 0
HasValue sem = sem.value ≤ value_limit

-- a lock is free, or its owner has taken it 1 to 32,767 times
abbrev pub IsDeep : Lock → Type 0
IsDeep lock.Free = Unit {0}
IsDeep (lock.Owned task depth) = (1 ≤ depth) × (depth ≤ nesting_limit)

-- the values of a part's objects are within their limits
abbrev pub AreBounded : PartState → Type 0
AreBounded (Tasks tasks) = (id : ℕ) (task : Active Task) → task_at tasks id ≡ Some task → HasPriority task.object
AreBounded (Queues queues) = (id : ℕ) (queue : Active Queue) → queue_at queues id ≡ Some queue → IsFilled queue.object
AreBounded (CountSems sems) = (id : ℕ) (sem : Active CountSem) → count_sem_at sems id ≡ Some sem → HasValue sem.object
AreBounded (Mutexes mutexes) = (id : ℕ) (mutex : Active Mutex) → mutex_at mutexes id ≡ Some mutex → IsDeep mutex.object.lock
AreBounded other = Unit {0}

-- in every state of the machine the values of each part's objects are within their limits
abbrev pub ValuesAreBounded : Type 0
ValuesAreBounded =
    (limits : Limits) (entries : List Entry) (part : ℕ) → AreBounded (part_in part (replay limits entries))
