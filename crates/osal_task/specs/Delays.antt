-- How a task waits for time to pass.
use Rattle.std.specs.Prelude.{ℕ, ◌==◌, Bool, not, [], Option, Some, None, if◌then◌else◌}
use Rattle.osal_base.specs.declared.status.Status.TheVariants as status
use Rattle.osal_base.specs.declared.time.Moment.{Moment}
use Rattle.osal_base.specs.declared.time.Timeout.TheVariants as timeout
use Rattle.osal_base.specs.Reply.{Replied, refusal, success, is_waits}
use Rattle.osal_object.specs.declared.waits.WaitRecord.{WaitRecord}
use Rattle.osal_object.specs.Waits.{wait_of, is_due}
use Rattle.osal_object.specs.Waiting.{abandon_step}
use Rattle.osal_object.specs.Outcomes.{Outcome, Give, Wait, Ending, NoWait, WaitsOn, Ends, ended_as}
use Rattle.osal_task.specs.declared.part.Task.{Task}
use Rattle.osal_task.specs.Tasks.{TaskState, in_tasks}

-- OS_TaskDelay: 0 milliseconds pass at once; else the task waits, on nothing, until they have passed
abbrev pub task_delay : ℕ → Outcome Task (Unit {0})
task_delay ms = if ms == 0 then Give 0 [] [] else Wait tt [] (timeout.Ms ms)

-- how a delay ends: it is over where it is due
abbrev pub delay_ending : Moment → Option (WaitRecord (Unit {0})) → Ending Task (Unit {0})
delay_ending now None = NoWait
delay_ending now (Some wait) = if is_due wait now then Ends success [] else WaitsOn

-- the end of a delay; no task waits in a part that is not there
abbrev pub wait_end_step : TaskState → ℕ → Moment → ℕ → Replied × TaskState
wait_end_step tasks task now part =
    in_tasks
    (ended_as tasks.objects task
    (if part == 0 then delay_ending now (wait_of tasks.objects.waits task) else NoWait))

-- a delay is given up
abbrev pub wait_abandon_step : TaskState → ℕ → ℕ → Replied × TaskState
wait_abandon_step tasks task part =
    if part == 0 then in_tasks (abandon_step tasks.objects task)
    else (refusal status.ErrIncorrectObjState, tasks)

-- whether the end of the task's delay would not wait on
abbrev pub ready : TaskState → ℕ → Moment → ℕ → Bool
ready tasks task now part = not (is_waits (wait_end_step tasks task now part).0.answer)
