-- The tasks whose scripts a driver runs, each in the slot of its identifier.
use Rattle.std.specs.Prelude.{◌≡◌, ◌<◌, ◌≤◌, ◌^◌, List, [], ◌∷◌, ℕ, Bool, true, false, not, Option, Some, None, length, slice_index_or, slice_set}
use Rattle.osal_base.specs.Identifier.{slot_of}
use Rattle.osal_base.specs.Limits.{version1}
use Rattle.osal_task.specs.Tasks.{goes}
use Rattle.osal_call.specs.declared.call.Call.{Call}
use Rattle.osal_call.specs.declared.call.Entry.{Entry}
use Rattle.osal_call.specs.Call.{said}
use Rattle.osal_machine.specs.Step.{MachineState, step, is_ready}
use Rattle.osal_script.specs.declared.phase.Phase.{Phase}
use Rattle.osal_script.specs.declared.phase.Phase.TheVariants as phase
use Rattle.osal_script.specs.Script.{ScriptState, start_of, after_entry, MayCome, is_ended}
use Rattle.osal_runs.specs.Segments.{Segment}
use Rattle.osal_runs.specs.Linked.{newest_script}

-- a task, and how far its script has come
pub record Running : Type 0 where
  pub id : ℕ
  pub script : ScriptState

-- the runner in a slot, if there is one
abbrev pub runner_at : List (Option Running) → ℕ → Option Running
runner_at runners slot = slice_index_or runners slot None

-- each slot from a number on is empty
abbrev pub EmptyFrom : List (Option Running) → ℕ → Type 0
EmptyFrom runners used = (slot : ℕ) → used ≤ slot → runner_at runners slot ≡ None

-- the slot of a task
abbrev pub slot_of_task : ℕ → ℕ
slot_of_task id = slot_of id version1.tasks

-- each slot's runner is as far as the newest script of its task, and each script that is not at its end has one
pub record AreRunning (segments : List Segment) (runners : List (Option Running)) : Type 0 where
  pub slots : length runners ≡ version1.tasks
  pub known : (slot : ℕ) (runner : Running) → runner_at runners slot ≡ Some runner → (runner.script ≡ newest_script segments runner.id) × (slot_of_task runner.id ≡ slot)
  pub all : (id : ℕ) → is_ended (newest_script segments id).phase ≡ false → runner_at runners (slot_of_task id) ≡ Some (record { id = id; script = newest_script segments id })

-- a runner after an entry of its task
abbrev pub gone_on : Entry → Option Running → Option Running
gone_on entry None = None
gone_on entry (Some runner) = Some (record runner { script = after_entry runner.script entry })

-- the runners after an entry of the task in a slot
abbrev pub with_entry : List (Option Running) → ℕ → Entry → List (Option Running)
with_entry runners slot entry = slice_set runners slot (gone_on entry (runner_at runners slot))

-- the runners with that of a segment that begins
abbrev pub with_begun : List (Option Running) → List Segment → List (Option Running)
with_begun runners [] = runners
with_begun runners (segment ∷ segments) =
    slice_set runners (slot_of_task segment.id) (Some (record { id = segment.id; script = start_of segment.bodies segment.body }))

-- a segment's identifier is one: a number of 32 bits
abbrev pub IsIdentifier : Segment → Type 0
IsIdentifier segment = segment.id < 2 ^ 32

-- whether a task whose script is in a phase goes on at once: the script is not at its end, and does not wait on
abbrev pub can_run_in : MachineState → ℕ → Phase → Bool
can_run_in state task phase.Before = true
can_run_in state task phase.At = true
can_run_in state task (phase.Waiting part) = is_ready state task state.time.moment part
can_run_in state task (phase.Leaving part) = true
can_run_in state task phase.Ended = false

-- whether a runner goes on at once
abbrev pub can_run : MachineState → Option Running → Bool
can_run state None = false
can_run state (Some runner) = can_run_in state runner.id runner.script.phase

-- whether a task whose script is in a phase waits, though it was deleted
abbrev pub is_lost_in : MachineState → ℕ → Phase → Bool
is_lost_in state task phase.Before = false
is_lost_in state task phase.At = false
is_lost_in state task (phase.Waiting part) = not (goes state.tasks task)
is_lost_in state task (phase.Leaving part) = false
is_lost_in state task phase.Ended = false

-- whether a runner waits, though its task was deleted
abbrev pub is_lost : MachineState → Option Running → Bool
is_lost state None = false
is_lost state (Some runner) = is_lost_in state runner.id runner.script.phase

-- a call that a runner may make: its script allows it with the answer that the machine gives
abbrev pub MayMake : MachineState → Option Running → Call → Type 0
MayMake state None made = ⊥
MayMake state (Some runner) made =
    MayCome runner.script.phase runner.script (said made) (step state runner.id state.time.moment made).0.answer

-- a runner waits in a part, though its task was deleted
abbrev pub IsLostIn : MachineState → Option Running → ℕ → Type 0
IsLostIn state None part = ⊥
IsLostIn state (Some runner) part = (runner.script.phase ≡ phase.Waiting part) × (goes state.tasks runner.id ≡ false)

-- no runner in the slots below a number goes on at once
abbrev pub NoneRuns : MachineState → List (Option Running) → ℕ → Type 0
NoneRuns state runners count = (slot : ℕ) → slot < count → can_run state (runner_at runners slot) ≡ false

-- no runner in the slots below a number waits, though its task was deleted
abbrev pub NoneIsLost : MachineState → List (Option Running) → ℕ → Type 0
NoneIsLost state runners count = (slot : ℕ) → slot < count → is_lost state (runner_at runners slot) ≡ false

-- the members are those runners in the slots below a number that go on at once
abbrev pub AreMembers : MachineState → List (Option Running) → List Bool → ℕ → Type 0
AreMembers state runners members count =
    (slot : ℕ) → slot < count → slice_index_or members slot false ≡ can_run state (runner_at runners slot)
