-- What one step of the machine does to identifiers and to waits.
use Rattle.std.specs.Prelude.{◌≡◌, ◌≢◌, ◌+◌, ℕ, List, Bool, true, false, Option, Some, None, if◌then◌else◌}
use Rattle.osal_base.specs.declared.limits.Limits.{Limits}
use Rattle.osal_base.specs.declared.time.Moment.{Moment}
use Rattle.osal_base.specs.Limits.{Fits}
use Rattle.osal_base.specs.Reply.{is_waits}
use Rattle.osal_object.specs.declared.waits.WaitRecord.{WaitRecord}
use Rattle.osal_object.specs.Waits.{wait_of, stands_on}
use Rattle.osal_call.specs.declared.call.Call.{Call}
use Rattle.osal_call.specs.declared.call.Call.TheVariants as call
use Rattle.osal_call.specs.declared.call.Entry.{Entry}
use Rattle.osal_machine.specs.Parts.{PartState, Io, on_waits}
use Rattle.osal_machine.specs.Step.{MachineState, part_in, step, is_active}
use Rattle.osal_machine.specs.OpenWaits.{has_wait}
use Rattle.osal_machine.specs.History.{replay}
use Rattle.osal_io.specs.Io.{is_of_stream}
use Rattle.osal_laws.specs.Laws.{holds_in}

-- a step makes an identifier active or not active
abbrev pub Turns : MachineState → MachineState → ℕ → Type 0
Turns old new id = is_active new id ≢ is_active old id

-- a step makes at most one identifier active or not active
abbrev pub StepsTurnOne : Type 0
StepsTurnOne =
    (state : MachineState) (task : ℕ) (now : Moment) (made : Call) (id other : ℕ)
    → Turns state (step state task now made).1 id
    → Turns state (step state task now made).1 other
    → id ≡ other

-- whether an open wait, if there is one, stands on an object
abbrev pub stands : {W : Type 0} → ℕ → Option (WaitRecord W) → Bool
stands id None = false
stands id (Some wait) = stands_on id wait

-- whether open waits of a part may stand on what has that identifier: in the io part on streams alone
abbrev pub may_be_awaited : PartState → ℕ → Bool
may_be_awaited (Io io) id = is_of_stream id
may_be_awaited part id = true

-- whether the open wait of a task in a part stands on an object
abbrev pub stands_in : PartState → ℕ → ℕ → Bool
stands_in part task id =
    if may_be_awaited part id then on_waits (λ W waits. stands id (wait_of waits task)) false part else false

-- a task's wait in a part is over: its record is gone, the other tasks wait as before, and each object on which it stood
-- has one hold less
pub record IsOver (old new : PartState) (task : ℕ) : Type 0 where
  pub gone : has_wait new task ≡ false
  pub others : (other : ℕ) → other ≢ task → has_wait new other ≡ has_wait old other
  pub given_back : (id : ℕ) → holds_in old id ≡ holds_in new id + (if stands_in old task id then 1 else 0)

-- the end of an open wait that does not wait on ends it, whatever it answers
abbrev pub EndedWaitsAreOver : Type 0
EndedWaitsAreOver =
    (limits : Limits) (entries : List Entry) (task : ℕ) (now : Moment) (part : ℕ)
    → Fits limits
    → has_wait (part_in part (replay limits entries)) task ≡ true
    → is_waits (step (replay limits entries) task now (call.WaitEnd part)).0.answer ≡ false
    → IsOver (part_in part (replay limits entries)) (part_in part (step (replay limits entries) task now (call.WaitEnd part)).1) task
