-- A call of the task part that creates no task and removes none leaves the same tasks active.
use Rattle.std.proofs.Common.{◌≡◌, ◌==◌, ℕ, Bool, true, false, nat_lt, List, [], ◌∷◌, map, Option, Some, None, refl, sym, subst}
use Rattle.std.proofs.lemmas.Bool.{true≢false}
use Rattle.osal_base.specs.declared.time.Moment.{Moment}
use Rattle.osal_base.specs.declared.time.Timeout.{Timeout}
use Rattle.osal_base.specs.Limits.{lowest_priority}
use Rattle.osal_base.specs.Reply.{Replied}
use Rattle.osal_idtable.specs.Table.{Active, active_at}
use Rattle.osal_idtable.specs.Holds.{is_held}
use Rattle.osal_object.specs.declared.waits.WaitRecord.{WaitRecord}
use Rattle.osal_object.specs.Waits.{new_wait, wait_of, is_due}
use Rattle.osal_object.specs.Objects.{ObjectsState}
use Rattle.osal_object.specs.Moves as move
use Rattle.osal_object.specs.Moves.{AreAllowed, changed}
use Rattle.osal_object.specs.Outcomes.{Write, Put, Mark, Outcome, Refuse, On, Give, Go, Find, Hold, Release, Wait, Ending, as_change, found_then, carried_out, ended_as}
use Rattle.osal_object.proofs.Activity.{Alike}
use Rattle.osal_object.proofs.Moves.{AreChanges, either, unchanged, one_change, changes_leave, abandon_changes}
use Rattle.osal_object.proofs.Carried.{Fits}
use Rattle.osal_task.specs.declared.part.Task.{Task}
use Rattle.osal_task.specs.Tasks.{TaskState}
use Rattle.osal_task.specs.Delays.{delay_ending, wait_abandon_step}
use Rattle.osal_call.specs.declared.call.Call.{Call}
use Rattle.osal_call.specs.declared.call.Call.TheVariants as call
use Rattle.osal_call.specs.Signature.{timeout_of, ends_wait}
use Rattle.osal_task.specs.Calls.{task_call, task_step}
use Rattle.osal_laws.proofs.Known.{known_fits, of_call}
use Rattle.osal_laws.proofs.TaskKnown.{tasks_known}

-- whether a call may make a task active, or remove one
abbrev pub moves_tasks : Call → Bool
moves_tasks (call.TaskCreate name body stack priority) = true
moves_tasks call.TaskExit = true
moves_tasks call.Checkpoint = true
moves_tasks other = false

module _ {T W : Type 0} where
  -- an outcome makes changes alone
  abbrev Changes : Outcome T W → Type 0
  Changes (Refuse fault) = Unit {0}
  Changes (On id does) = (active : Active T) → Changes (does active)
  Changes (Give number bytes writes) = Unit {0}
  Changes Go = Unit {0}
  Changes (Find name) = Unit {0}
  Changes (Hold id) = Unit {0}
  Changes (Release id) = Unit {0}
  Changes (Wait what on timeout) = Unit {0}
  Changes other = ⊥

  may_write : (objects : ObjectsState T W) (writes : List (Write T W)) → AreAllowed objects (map as_change writes)
  may_write objects [] = tt
  may_write objects (Put id object ∷ writes) = (tt, may_write (changed objects (as_change (Put id object))) writes)
  may_write objects (Mark test ∷ writes) = (tt, may_write (changed objects (as_change (Mark test))) writes)

  module _ (objects : ObjectsState T W) (task : ℕ) (now : Moment) where
    -- a step makes changes
    abbrev Alters : Replied × ObjectsState T W → Type 0
    Alters stepped = AreChanges objects stepped.1

    found_alters : (does : Active T → Replied × ObjectsState T W) (found : Option (Active T)) → ((active : Active T) → found ≡ Some active → Alters (does active)) → Alters (found_then objects does found)
    found_alters does None each = unchanged objects
    found_alters does (Some active) each = each active refl

    outcome_alters : (wait : Timeout) (outcome : Outcome T W) → Changes outcome → Fits objects wait outcome → Alters (carried_out objects task now outcome)
    outcome_alters wait (Refuse fault) is fits = unchanged objects
    outcome_alters wait (On id does) is fits =
        found_alters _ (active_at objects.table id) (λ active at. outcome_alters wait (does active) (is active) (fits active at))
    outcome_alters wait (Give number bytes writes) is fits =
        record { made = map as_change writes; may = may_write objects writes; are = refl }
    outcome_alters wait Go is fits = unchanged objects
    outcome_alters wait (Find name) is fits = unchanged objects
    outcome_alters wait (Hold id) is fits = one_change objects (move.Hold id) tt
    outcome_alters wait (Release id) is fits = one_change objects (move.Release id) tt
    outcome_alters wait (Wait what on timeout) is fits =
        one_change objects (move.Begin (new_wait task what on timeout now)) fits.2
    outcome_alters wait _ is fits = absurd is

-- a call that creates no task and removes none
still : (task : ℕ) (made : Call) → moves_tasks made ≡ false → Changes (task_call task made)
still task (call.TaskCreate name body stack priority) is = absurd (true≢false is)
still task call.TaskExit is = absurd (true≢false is)
still task call.Checkpoint is = absurd (true≢false is)
still task (call.TaskDelete id) is = λ active.
    either Changes active.object.marked _ _ tt (either Changes (is_held (Some active)) _ _ tt tt)
still task (call.TaskSetPriority id priority) is =
    either Changes (nat_lt lowest_priority priority) _ _ tt (λ active. tt)
still task (call.TaskInfo id) is = λ active. tt
still task (call.TaskDelay ms) is = either Changes (ms == 0) _ _ tt tt
still task (call.Hold id) is = λ active. either Changes active.object.marked _ _ tt tt
still task _ is = tt

module _ (tasks : TaskState) (task : ℕ) (now : Moment) where
  -- an ending makes changes
  abbrev Closes : Ending Task (Unit {0}) → Type 0
  Closes ending = AreChanges tasks.objects (ended_as tasks.objects task ending).1

  delay_alters : (found : Option (WaitRecord (Unit {0}))) → Closes (delay_ending now found)
  delay_alters None = unchanged tasks.objects
  delay_alters (Some wait) =
      either Closes (is_due wait now) _ _ (one_change tasks.objects (move.End task) tt) (unchanged tasks.objects)

  end_alters : (part : ℕ) → AreChanges tasks.objects (task_step tasks task now (call.WaitEnd part)).1.objects
  end_alters part =
      either Closes (part == 0) _ _ (delay_alters (wait_of tasks.objects.waits task)) (unchanged tasks.objects)

  abandon_alters : (part : ℕ) → AreChanges tasks.objects (wait_abandon_step tasks task part).1.objects
  abandon_alters part =
      either (λ (stepped : Replied × TaskState). AreChanges tasks.objects stepped.1.objects) (part == 0) _ _
      (abandon_changes tasks.objects task (wait_of tasks.objects.waits task)) (unchanged tasks.objects)

  call_alters : (made : Call) → ends_wait made ≡ false → moves_tasks made ≡ false → AreChanges tasks.objects (task_step tasks task now made).1.objects
  call_alters made other is =
      subst (λ (s : Replied × ObjectsState Task (Unit {0})). AreChanges tasks.objects s.1) (sym (tasks_known.calls tasks task now made other))
      (outcome_alters tasks.objects task now (timeout_of made) (task_call task made) (still task made is) (known_fits tasks_known tasks task now made other))

  -- a call that creates no task and removes none leaves the same tasks active
  pub task_alike : (made : Call) → moves_tasks made ≡ false → Alike tasks.objects.table (task_step tasks task now made).1.objects.table
  task_alike made is =
      changes_leave tasks.objects _
      (of_call (λ m. moves_tasks m ≡ false → AreChanges tasks.objects (task_step tasks task now m).1.objects)
      call_alters (λ part same. end_alters part) (λ part same. abandon_alters part) made is)
