-- What a run has of its machine and its scripts together: the open waits are those of scripts.
use Rattle.std.specs.Prelude.{◌≡◌, ◌==◌, List, [], ◌∷◌, ℕ, Bool, true, false, Some, slice_get, is_some, if◌then◌else◌}
use Rattle.std.specs.List.{AllByRecursion}
use Rattle.osal_base.specs.Limits.{version1}
use Rattle.osal_idtable.specs.Table.{Active}
use Rattle.osal_task.specs.declared.part.Task.{Task}
use Rattle.osal_task.specs.Tasks.{task_at}
use Rattle.osal_time.specs.Attachment.{AreAttached}
use Rattle.osal_call.specs.declared.call.Call.{Call}
use Rattle.osal_call.specs.declared.call.Call.TheVariants as call
use Rattle.osal_call.specs.declared.call.Entry.{Entry}
use Rattle.osal_machine.specs.Step.{MachineState, part_in}
use Rattle.osal_machine.specs.OpenWaits.{has_wait, WaitsOnce}
use Rattle.osal_machine.specs.History.{IsLegal, replay}
use Rattle.osal_script.specs.declared.phase.Phase.{Phase}
use Rattle.osal_script.specs.declared.phase.Phase.TheVariants as phase
use Rattle.osal_script.specs.App.{Application, NamesLater}
use Rattle.osal_script.specs.Script.{ScriptState, is_success}
use Rattle.osal_runs.specs.Segments.{Segment, script_in, is_of, has_segment, segments_of}
use Rattle.osal_runs.specs.Runs.{Follows}

-- a script at its end, for an identifier without a segment
abbrev pub no_script : ScriptState
no_script = record { phase = phase.Ended; pending = []; frames = record { body = []; handler = [] }; bodies = [] }

-- how far the script of an identifier's newest segment has come
abbrev pub newest_script : List Segment → ℕ → ScriptState
newest_script [] id = no_script
newest_script (segment ∷ segments) id =
    if has_segment segments id then newest_script segments id
    else (if is_of id segment then script_in segment else no_script)

-- whether a script in a phase has an open wait in the part
abbrev pub waits_in : ℕ → Phase → Bool
waits_in part phase.Before = false
waits_in part phase.At = false
waits_in part (phase.Waiting other) = other == part
waits_in part (phase.Leaving other) = other == part
waits_in part phase.Ended = false

-- whether the task of a script in a phase is active for certain: at the script's end it may still be, where its
-- exit was refused
abbrev pub is_live : Phase → Bool
is_live phase.Before = true
is_live phase.At = true
is_live (phase.Waiting part) = true
is_live (phase.Leaving part) = false
is_live phase.Ended = false

-- whether a script gives a wait up, since its task was deleted
abbrev pub is_leaving : Phase → Bool
is_leaving phase.Before = false
is_leaving phase.At = false
is_leaving (phase.Waiting part) = false
is_leaving (phase.Leaving part) = true
is_leaving phase.Ended = false

-- what a state has of a task whose script is in a phase: an open wait in each part in which the script waits, and in
-- no other, and an active task while the script goes on
pub record IsLinkedAt (state : MachineState) (task : ℕ) (at : Phase) : Type 0 where
  pub waits : (part : ℕ) → has_wait (part_in part state) task ≡ waits_in part at
  pub live : is_live at ≡ true → is_some (task_at state.tasks task) ≡ true
  pub gone : is_leaving at ≡ true → is_some (task_at state.tasks task) ≡ false

-- a segment runs a body of the application, and knows its other bodies
abbrev pub RunsBody : Application → Segment → Type 0
RunsBody app segment =
    (segment.bodies ≡ app.bodies) × ((number : ℕ) × (slice_get app.bodies number ≡ Some segment.body))

-- a state and the segments before it belong together: each task has an open wait exactly where its newest script
-- waits, and at most one in a part; no task that is marked for deletion is held; each timer is attached to its timebase
pub record IsLinked (app : Application) (state : MachineState) (segments : List Segment) : Type 0 where
  pub each : (task : ℕ) → IsLinkedAt state task (newest_script segments task).phase
  pub once : (part task : ℕ) → WaitsOnce (part_in part state) task
  pub unheld : (id : ℕ) (active : Active Task) → task_at state.tasks id ≡ Some active → active.object.marked ≡ true → active.holds ≡ 0
  pub typed : state.tasks.objects.table.kind ≡ 1
  pub timers : AreAttached version1.timers state.time
  pub nobody : has_segment segments 0 ≡ false
  pub bodies : AllByRecursion (RunsBody app) segments

-- whether a call creates a task
abbrev pub is_creation : Call → Bool
is_creation (call.TaskCreate name body stack priority) = true
is_creation other = false

-- an entry that creates a task gives no identifier whose last script still has a wait to give up
abbrev pub GivesFree : List Segment → Entry → Type 0
GivesFree segments entry =
    is_creation entry.call ≡ true
    → is_success entry.reply.answer ≡ true
    → is_leaving (newest_script segments entry.reply.number).phase ≡ false

-- in every legal history that follows an application the open waits are those of its scripts
abbrev pub OpenWaitsAreScripts : Type 0
OpenWaitsAreScripts =
    (app : Application) (entries : List Entry)
    → NamesLater app
    → IsLegal version1 entries
    → Follows app entries
    → IsLinked app (replay version1 entries) (segments_of app entries)
