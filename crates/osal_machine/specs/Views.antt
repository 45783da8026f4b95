-- What stands behind the calls of parts: one part alone, or the whole machine.
use Rattle.std.specs.Prelude.{ℕ, Bool, true, not}
use Rattle.osal_base.specs.declared.time.Moment.{Moment}
use Rattle.osal_base.specs.Reply.{Replied, is_waits}
use Rattle.osal_task.specs.Tasks.{goes}
use Rattle.osal_call.specs.Call.{part_of}
use Rattle.osal_machine.specs.Parts.{PartState, part_step, is_part, is_active_in, goes_in}
use Rattle.osal_machine.specs.Step.{MachineState, step, is_active}
use Rattle.osal_call.specs.declared.call.Call.{Call}
use Rattle.osal_call.specs.declared.call.Call.TheVariants as call

-- one part, or all of them
pub data PartView : Type 0 where
  Alone : PartState → PartView
  All : MachineState → PartView

-- whether a call is one of the part's own; the whole machine has every call
abbrev pub is_own : PartView → Call → Bool
is_own (Alone part) made = is_part part (part_of made)
is_own (All state) made = true

-- a step of what stands alone
abbrev pub alone : Replied × PartState → Replied × PartView
alone stepped = (stepped.0, Alone stepped.1)

-- a step of the whole machine
abbrev pub of_all : Replied × MachineState → Replied × PartView
of_all stepped = (stepped.0, All stepped.1)

-- what a call answers, and what stands there after it
abbrev pub view_step : PartView → ℕ → Moment → Call → Replied × PartView
view_step (Alone part) task now made = alone (part_step part task now made)
view_step (All state) task now made = of_all (step state task now made)

-- whether the end of a task's wait would not wait on
abbrev pub is_ready_in : PartView → ℕ → Moment → ℕ → Bool
is_ready_in view task now part = not (is_waits (view_step view task now (call.WaitEnd part)).0.answer)

-- whether an identifier is active there
abbrev pub is_active_at : PartView → ℕ → Bool
is_active_at (Alone part) id = is_active_in part id
is_active_at (All state) id = is_active state id

-- whether a task is active there and not marked for deletion
abbrev pub goes_at : PartView → ℕ → Bool
goes_at (Alone part) task = goes_in part task
goes_at (All state) task = goes state.tasks task
