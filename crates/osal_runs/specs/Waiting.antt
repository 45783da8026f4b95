-- Which tasks can go on, and when the next wait is due.
use Rattle.std.specs.Prelude.{◌||◌, ◌&&◌, List, ℕ, Bool, not}
use Rattle.std.specs.List.{list_any}
pub use Rattle.osal_object.specs.Deadlines.{deadline_above, deadlines_in, least_with, least}
use Rattle.osal_task.specs.Tasks.{goes}
use Rattle.osal_machine.specs.Step.{MachineState, part_in, is_ready}
use Rattle.osal_machine.specs.OpenWaits.{part_numbers, has_wait}
pub use Rattle.osal_machine.specs.Deadlines.{deadlines, next_deadline}
use Rattle.osal_script.specs.Script.{is_ended}
use Rattle.osal_runs.specs.Segments.{Segment, script_in}

-- whether a task has an open wait in a part that would wait on at the moment
abbrev pub waits_on_in : MachineState → ℕ → ℕ → Bool
waits_on_in state task part =
    has_wait (part_in part state) task && not (is_ready state task state.time.moment part)

-- whether a task has an open wait that would wait on at the moment
abbrev pub waits_on : MachineState → ℕ → Bool
waits_on state task = list_any (waits_on_in state task) part_numbers

-- a segment's task can go on: its script is not at its end, and it does not wait on, or was deleted
abbrev pub can_go : MachineState → Segment → Bool
can_go state segment =
    not (is_ended (script_in segment).phase) && (not (waits_on state segment.id) || not (goes state.tasks segment.id))

-- whether some task can go on
abbrev pub some_can_go : MachineState → List Segment → Bool
some_can_go state segments = list_any (can_go state) segments
