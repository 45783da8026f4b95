-- The calls of the task part.
use Rattle.std.specs.Prelude.{ℕ}
use Rattle.osal_base.specs.declared.status.Status.TheVariants as status
use Rattle.osal_base.specs.declared.time.Moment.{Moment}
use Rattle.osal_base.specs.Reply.{Replied}
use Rattle.osal_call.specs.declared.call.Call.{Call}
use Rattle.osal_call.specs.declared.call.Call.TheVariants as call
use Rattle.osal_object.specs.Outcomes.{Outcome, Refuse, Find, Remove, Release}
use Rattle.osal_task.specs.declared.part.Task.{Task}
use Rattle.osal_task.specs.Tasks.{TaskState, done, task_create, task_delete, task_set_priority, task_info, checkpoint, hold}
use Rattle.osal_task.specs.Delays.{task_delay, wait_end_step, wait_abandon_step}

-- the calls of the task part that end no wait
abbrev pub task_call : ℕ → Call → Outcome Task (Unit {0})
task_call task (call.TaskCreate name body stack priority) = task_create name.bytes body stack priority
task_call task call.TaskExit = Remove task
task_call task (call.TaskDelete id) = task_delete id
task_call task (call.TaskSetPriority id priority) = task_set_priority id priority
task_call task (call.TaskFind name) = Find name.bytes
task_call task (call.TaskInfo id) = task_info id
task_call task (call.TaskDelay ms) = task_delay ms
task_call task call.Checkpoint = checkpoint task
task_call task (call.Hold id) = hold id
task_call task (call.Release id) = Release id
task_call task other = Refuse status.ErrIncorrectObjState

-- the calls of the task part
abbrev pub task_step : TaskState → ℕ → Moment → Call → Replied × TaskState
task_step tasks task now (call.WaitEnd part) = wait_end_step tasks task now part
task_step tasks task now (call.WaitAbandon part) = wait_abandon_step tasks task part
task_step tasks task now made = done tasks task now (task_call task made)
