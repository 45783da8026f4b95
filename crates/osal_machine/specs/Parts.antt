-- The parts of the machine.
use Rattle.std.specs.Prelude.{◌==◌, ℕ, Bool, false, is_some, if◌then◌else◌}
use Rattle.osal_base.specs.declared.time.Moment.{Moment}
use Rattle.osal_base.specs.declared.status.Status.TheVariants as status
use Rattle.osal_base.specs.Reply.{Replied, refusal}
use Rattle.osal_idtable.specs.Table.{active_at}
use Rattle.osal_object.specs.Objects.{ObjectsState}
use Rattle.osal_object.specs.Waits.{WaitsState}
use Rattle.osal_task.specs.Tasks as of_tasks
use Rattle.osal_task.specs.Tasks.{TaskState}
use Rattle.osal_task.specs.Calls.{task_step}
use Rattle.osal_queue.specs.Queues.{QueueState, queue_step}
use Rattle.osal_sem.specs.Counting.{CountSemState, count_sem_step}
use Rattle.osal_sem.specs.Binary.{BinSemState, bin_sem_step}
use Rattle.osal_mutex.specs.Mutexes.{MutexState, mutex_step}
use Rattle.osal_condvar.specs.Condvars.{CondvarState, condvar_step}
use Rattle.osal_time.specs.Time.{TimeState, is_timer}
use Rattle.osal_time.specs.Calls.{time_step}
use Rattle.osal_file.specs.Held.{is_of_directory}
use Rattle.osal_io.specs.Io.{IoState, is_of_stream}
use Rattle.osal_io.specs.Calls.{io_step}
use Rattle.osal_console.specs.Console.{ConsoleState, console_step}
use Rattle.osal_call.specs.declared.call.Call.{Call}
use Rattle.osal_call.specs.declared.call.Call.TheVariants as call

-- the state of one part; no part has a number above 8
pub data PartState : Type 0 where
  Tasks : TaskState → PartState
  Queues : QueueState → PartState
  CountSems : CountSemState → PartState
  BinSems : BinSemState → PartState
  Mutexes : MutexState → PartState
  Condvars : CondvarState → PartState
  Time : TimeState → PartState
  Io : IoState → PartState
  Console : ConsoleState → PartState
  Absent : PartState

-- what would be answered where no part is: no identifier is active, and no task waits
abbrev pub absent_reply : Call → Replied
absent_reply (call.Hold id) = refusal status.ErrInvalidId
absent_reply (call.Release id) = refusal status.ErrInvalidId
absent_reply other = refusal status.ErrIncorrectObjState

-- a part's call changes that part
abbrev pub as_part : {S : Type 0} → (S → PartState) → Replied × S → Replied × PartState
as_part part stepped = (stepped.0, part stepped.1)

-- what a task's call of a part answers, and the part after it
abbrev pub part_step : PartState → ℕ → Moment → Call → Replied × PartState
part_step (Tasks tasks) task now made = as_part (λ s. Tasks s) (task_step tasks task now made)
part_step (Queues queues) task now made = as_part (λ s. Queues s) (queue_step queues task now made)
part_step (CountSems sems) task now made = as_part (λ s. CountSems s) (count_sem_step sems task now made)
part_step (BinSems sems) task now made = as_part (λ s. BinSems s) (bin_sem_step sems task now made)
part_step (Mutexes mutexes) task now made = as_part (λ s. Mutexes s) (mutex_step mutexes task now made)
part_step (Condvars condvars) task now made = as_part (λ s. Condvars s) (condvar_step condvars task now made)
part_step (Time time) task now made = as_part (λ s. Time s) (time_step time task now made)
part_step (Io io) task now made = as_part (λ s. Io s) (io_step io task now made)
part_step (Console console) task now made = as_part (λ s. Console s) (console_step console task now made)
part_step Absent task now made = (absent_reply made, Absent)

-- what is seen of the objects of a part among which an identifier is looked for, or stands for none where no part is
abbrev pub on_objects : {X : Type 0} → ((T W : Type 0) → ObjectsState T W → X) → X → PartState → ℕ → X
on_objects see none (Tasks tasks) id = see _ _ tasks.objects
on_objects see none (Queues queues) id = see _ _ queues.objects
on_objects see none (CountSems sems) id = see _ _ sems.objects
on_objects see none (BinSems sems) id = see _ _ sems.objects
on_objects see none (Mutexes mutexes) id = see _ _ mutexes.objects
on_objects see none (Condvars condvars) id = see _ _ condvars.objects
on_objects see none (Time time) id = if is_timer id then see _ _ time.timers else see _ _ time.timebases
on_objects see none (Io io) id =
    if is_of_stream id then see _ _ io.streams
    else (if is_of_directory id then see _ _ io.files.directories
    else see _ _ io.files.systems)
on_objects see none (Console console) id = see _ _ console.objects
on_objects see none Absent id = none

-- what is seen of the open waits of a part, or stands for none where tasks do not wait
abbrev pub on_waits {ℓ} : {X : Type ℓ} → ((W : Type 0) → WaitsState W → X) → X → PartState → X
on_waits see none (Tasks tasks) = see _ tasks.objects.waits
on_waits see none (Queues queues) = see _ queues.objects.waits
on_waits see none (CountSems sems) = see _ sems.objects.waits
on_waits see none (BinSems sems) = see _ sems.objects.waits
on_waits see none (Mutexes mutexes) = see _ mutexes.objects.waits
on_waits see none (Condvars condvars) = see _ condvars.objects.waits
on_waits see none (Time time) = none
on_waits see none (Io io) = see _ io.streams.waits
on_waits see none (Console console) = none
on_waits see none Absent = none

-- whether a part of that number is this one
abbrev pub is_part : PartState → ℕ → Bool
is_part (Tasks tasks) part = part == 0
is_part (Queues queues) part = part == 1
is_part (CountSems sems) part = part == 2
is_part (BinSems sems) part = part == 3
is_part (Mutexes mutexes) part = part == 4
is_part (Condvars condvars) part = part == 5
is_part (Time time) part = part == 6
is_part (Io io) part = part == 7
is_part (Console console) part = part == 8
is_part Absent part = false

-- whether an identifier is active in a part
abbrev pub is_active_in : PartState → ℕ → Bool
is_active_in part id = on_objects (λ T W objects. is_some (active_at objects.table id)) false part id

-- whether a task is active in a part and not marked for deletion: only the task part has tasks
abbrev pub goes_in : PartState → ℕ → Bool
goes_in (Tasks tasks) id = of_tasks.goes tasks id
goes_in other id = false
