-- The machine of one thread: the product of its parts, and what a call does to it.
use Rattle.std.specs.Prelude.{◌==◌, ℕ, Bool, not, if◌then◌else◌}
use Rattle.osal_base.specs.declared.limits.Limits.{Limits}
use Rattle.osal_base.specs.declared.time.Moment.{Moment}
use Rattle.osal_base.specs.Reply.{Replied, is_waits}
use Rattle.osal_task.specs.Tasks.{TaskState, no_tasks}
use Rattle.osal_queue.specs.Queues.{QueueState, no_queues}
use Rattle.osal_sem.specs.Counting.{CountSemState, no_count_sems}
use Rattle.osal_sem.specs.Binary.{BinSemState, no_bin_sems}
use Rattle.osal_mutex.specs.Mutexes.{MutexState, no_mutexes}
use Rattle.osal_condvar.specs.Condvars.{CondvarState, no_condvars}
use Rattle.osal_time.specs.Time.{TimeState, time_start}
use Rattle.osal_io.specs.Io.{IoState, no_io}
use Rattle.osal_console.specs.Console.{ConsoleState, empty_console}
use Rattle.osal_call.specs.Call.{part_of, part_of_id}
use Rattle.osal_machine.specs.Parts.{PartState, Tasks, Queues, CountSems, BinSems, Mutexes, Condvars, Time, Io, Console, Absent, part_step, is_active_in}
use Rattle.osal_call.specs.declared.call.Call.{Call}
use Rattle.osal_call.specs.declared.call.Call.TheVariants as call

-- the states of the parts
pub record MachineState : Type 0 where
  pub tasks : TaskState
  pub queues : QueueState
  pub count_sems : CountSemState
  pub bin_sems : BinSemState
  pub mutexes : MutexState
  pub condvars : CondvarState
  pub time : TimeState
  pub io : IoState
  pub console : ConsoleState

-- no objects but the console, at the start of time
abbrev pub opening : Limits → MachineState
opening limits = record {
  tasks = no_tasks limits;
  queues = no_queues limits;
  count_sems = no_count_sems limits;
  bin_sems = no_bin_sems limits;
  mutexes = no_mutexes limits;
  condvars = no_condvars limits;
  time = time_start limits;
  io = no_io limits;
  console = empty_console limits;
}

-- the part of that number
abbrev pub part_in : ℕ → MachineState → PartState
part_in part state =
    if part == 0 then Tasks state.tasks
    else (if part == 1 then Queues state.queues
    else (if part == 2 then CountSems state.count_sems
    else (if part == 3 then BinSems state.bin_sems
    else (if part == 4 then Mutexes state.mutexes
    else (if part == 5 then Condvars state.condvars
    else (if part == 6 then Time state.time
    else (if part == 7 then Io state.io
    else (if part == 8 then Console state.console
    else Absent))))))))

-- the machine with another state of a part
abbrev pub with_part : MachineState → PartState → MachineState
with_part state (Tasks tasks) = record state { tasks = tasks }
with_part state (Queues queues) = record state { queues = queues }
with_part state (CountSems sems) = record state { count_sems = sems }
with_part state (BinSems sems) = record state { bin_sems = sems }
with_part state (Mutexes mutexes) = record state { mutexes = mutexes }
with_part state (Condvars condvars) = record state { condvars = condvars }
with_part state (Time time) = record state { time = time }
with_part state (Io io) = record state { io = io }
with_part state (Console console) = record state { console = console }
with_part state Absent = state

-- a part's call changes that part alone
abbrev pub in_machine : MachineState → Replied × PartState → Replied × MachineState
in_machine state stepped = (stepped.0, with_part state stepped.1)

-- what a task's call answers, and the state that it leaves: the part whose call it is makes it
abbrev pub step : MachineState → ℕ → Moment → Call → Replied × MachineState
step state task now made = in_machine state (part_step (part_in (part_of made) state) task now made)

-- whether an identifier is active, in the part of its type
abbrev pub is_active : MachineState → ℕ → Bool
is_active state id = is_active_in (part_in (part_of_id id) state) id

-- whether the end of a task's wait in a part would not wait on
abbrev pub is_ready : MachineState → ℕ → Moment → ℕ → Bool
is_ready state task now part = not (is_waits (step state task now (call.WaitEnd part)).0.answer)
