-- A task that is marked for deletion is not held, so its checkpoint removes it.
use Rattle.std.proofs.Common.{◌≡◌, ◌==◌, ℕ, true, cond, List, [], ◌∷◌, nat_lt, Option, Some, None, Result, refl, sym, ap, subst, ◌∙◌, arith}
use Rattle.std.specs.FinMap as map
use Rattle.std.proofs.lemmas.Bool.{cond_both}
use Rattle.std.proofs.lemmas.Bool.Decides.{nat_tests}
use Rattle.osal_base.specs.declared.id.ObjType.TheVariants as kind
use Rattle.osal_base.specs.declared.name.NameFault.{NameFault}
use Rattle.osal_base.specs.declared.status.Status.TheVariants as status
use Rattle.osal_base.specs.declared.time.Moment.{Moment}
use Rattle.osal_base.specs.declared.time.Timeout.TheVariants as timeout
use Rattle.osal_base.specs.Identifier.{type_number}
use Rattle.osal_base.specs.Name.{name_fault}
use Rattle.osal_base.specs.Reply.{Replied, deleted}
use Rattle.osal_object.specs.declared.waits.WaitRecord.{WaitRecord}
use Rattle.osal_idtable.specs.declared.table.IdFault.{IdFault}
use Rattle.osal_idtable.specs.Table.{Active, active_at}
use Rattle.osal_idtable.specs.Steps.{take_out, unheld}
use Rattle.osal_idtable.specs.Holds.{is_held}
use Rattle.osal_idtable.specs.Faults.{unless}
use Rattle.osal_object.specs.Waits.{wait_of, wait_fault, is_due, new_wait}
use Rattle.osal_object.specs.Objects.{ObjectsState, delete_step}
use Rattle.osal_object.specs.Outcomes.{Outcome, Refuse, Go, Leave, Hold, Ending, found_then, carried_out, ended_as, given_up}
use Rattle.osal_idtable.proofs.WellFormed.{gone_here, no_active}
use Rattle.osal_task.specs.declared.part.Task.{Task}
use Rattle.osal_task.specs.Tasks as of_tasks
use Rattle.osal_task.specs.Tasks.{TaskState, task_at, new_task}
use Rattle.osal_base.specs.Limits.{lowest_priority}
use Rattle.osal_task.specs.Delays.{delay_ending}
use Rattle.osal_call.specs.declared.call.Call.{Call}
use Rattle.osal_call.specs.declared.call.Call.TheVariants as call
use Rattle.osal_call.specs.declared.call.Entry.{Entry}
use Rattle.osal_task.specs.Calls.{task_call, task_step}
use Rattle.osal_machine.specs.Step.{MachineState, opening, step}
use Rattle.osal_machine.specs.History.{after_entry, replay_from, replay}
use Rattle.osal_laws.specs.Laws.{MarkedTasksAreUnheld, DeletedTasksAreGone}
use Rattle.osal_laws.proofs.Histories.{replay_push, legal_last}
use Rattle.osal_laws.proofs.Own.{after_tasks}
use Rattle.osal_object.proofs.Moves.{either}
use Rattle.osal_laws.proofs.Known.{of_call, by_outcome, by_ending, by_giving_up}
use Rattle.osal_laws.proofs.TaskKnown.{tasks_known}
use Rattle.osal_laws.proofs.Unheld.{AreFree, free_create, free_delete, free_put, free_hold, free_release, free_begun, free_ended}

-- each task of the part that is marked for deletion is not held
abbrev pub AllFree : TaskState → Type 0
AllFree tasks = AreFree tasks.objects.table.active

module _ (tasks : TaskState) (all : AllFree tasks) where
  -- a step of the tasks leaves them so
  abbrev Frees : Replied × ObjectsState Task (Unit {0}) → Type 0
  Frees stepped = AreFree stepped.1.table.active

  found_frees : (does : Active Task → Replied × ObjectsState Task (Unit {0})) (found : Option (Active Task)) → ((active : Active Task) → found ≡ Some active → Frees (does active)) → Frees (found_then tasks.objects does found)
  found_frees does None each = all
  found_frees does (Some active) each = each active refl

  named_frees : (does : Replied × ObjectsState Task (Unit {0})) (fault : Option NameFault) → Frees does → Frees (unless fault tasks.objects does)
  named_frees does (Some fault) frees = all
  named_frees does None frees = frees

  module _ (task : ℕ) (now : Moment) where
    -- a call leaves them so
    abbrev By : Outcome Task (Unit {0}) → Type 0
    By outcome = Frees (carried_out tasks.objects task now outcome)

    -- only a task that is not held is marked
    mark_frees : (id : ℕ) (active : Active Task) → task_at tasks id ≡ Some active → By (of_tasks.mark_of id active)
    mark_frees id active is =
        either By active.object.marked _ _ all
        (cond_both (is_held (Some active)) _ _ By
        (λ held. all)
        (λ none. free_put tasks.objects all id _ active is (λ marked. grind (arith, nat_tests))))

    -- only a task that is not marked is held
    hold_frees : (id : ℕ) (active : Active Task) → task_at tasks id ≡ Some active → By (cond active.object.marked (Refuse status.ErrIncorrectObjState) (Hold id))
    hold_frees id active is =
        cond_both active.object.marked _ _ By
        (λ marked. all)
        (λ unmarked. free_hold tasks.objects all id active is unmarked)

    call_frees : (made : Call) → By (task_call task made)
    call_frees (call.TaskCreate name body stack priority) =
        named_frees _ (name_fault name.bytes)
        (either By (nat_lt lowest_priority priority) _ _ all (free_create tasks.objects all name.bytes (new_task body stack priority)))
    call_frees call.TaskExit = free_delete tasks.objects all task
    call_frees (call.TaskDelete id) = found_frees _ (task_at tasks id) (mark_frees id)
    call_frees (call.TaskSetPriority id priority) =
        either By (nat_lt lowest_priority priority) _ _ all
        (found_frees _ (task_at tasks id) (λ active is. free_put tasks.objects all id _ active is (all id active is)))
    call_frees (call.TaskInfo id) = found_frees _ (task_at tasks id) (λ active is. all)
    call_frees (call.TaskDelay ms) =
        either By (ms == 0) _ _ all
        (free_begun tasks.objects all (new_wait task tt [] (timeout.Ms ms) now) (wait_fault tasks.objects.waits task) refl)
    call_frees call.Checkpoint =
        found_frees _ (task_at tasks task) (λ active is. either By active.object.marked _ _ (free_delete tasks.objects all task) all)
    call_frees (call.Hold id) = found_frees _ (task_at tasks id) (hold_frees id)
    call_frees (call.Release id) = free_release tasks.objects all id
    call_frees other = all

    -- an ending leaves them so
    ending_frees : (found : Option (WaitRecord (Unit {0}))) → Frees (ended_as tasks.objects task (delay_ending now found))
    ending_frees None = all
    ending_frees (Some wait) =
        either (λ (e : Ending Task (Unit {0})). Frees (ended_as tasks.objects task e)) (is_due wait now) _ _
        (free_ended tasks.objects all task (wait_of tasks.objects.waits task)) all

    given_up_frees : (found : Option (WaitRecord (Unit {0}))) → Frees (ended_as tasks.objects task (given_up found))
    given_up_frees None = all
    given_up_frees (Some wait) = free_ended tasks.objects all task (wait_of tasks.objects.waits task)

    task_frees : (made : Call) → AllFree (task_step tasks task now made).1
    task_frees =
        of_call (λ made. AllFree (task_step tasks task now made).1)
        (λ made other. by_outcome tasks_known tasks task now Frees made other (call_frees made))
        (λ part. by_ending tasks_known tasks task now Frees part (ending_frees (wait_of tasks.objects.waits task)) all)
        (λ part. by_giving_up tasks_known tasks task now Frees part (given_up_frees (wait_of tasks.objects.waits task)) all)

  taken : (task : ℕ) (active : Active Task) → active.holds ≡ 0 → map.get (take_out tasks.objects.table task (unheld (Some active))).1.active task ≡ None
  taken task active none =
      cond_both (nat_lt 0 active.holds) _ _ (λ (r : Result Task IdFault). map.get (take_out tasks.objects.table task r).1.active task ≡ None)
      (λ held. grind (arith, nat_tests))
      (λ free. gone_here tasks.objects.table.active task)

  removed : (task : ℕ) (active : Active Task) → task_at tasks task ≡ Some active → active.object.marked ≡ true → active_at (delete_step tasks.objects task).1.table task ≡ None
  removed task active is marked =
      subst (λ (o : Option (Active Task)). map.get (take_out tasks.objects.table task (unheld o)).1.active task ≡ None) (sym is)
      (taken task active (all task active is marked))

  -- what a checkpoint answers by the task that is found, and the tasks after it
  abbrev checked : ℕ → Moment → Option (Active Task) → Replied × ObjectsState Task (Unit {0})
  checked task now found =
      found_then tasks.objects (λ active. carried_out tasks.objects task now (cond active.object.marked (Leave task) Go)) found

  deleted_gone : (task : ℕ) (now : Moment) (found : Option (Active Task)) → task_at tasks task ≡ found → (checked task now found).0 ≡ deleted → active_at (checked task now found).1.table task ≡ None
  deleted_gone task now None is = λ same. is
  deleted_gone task now (Some active) is =
      cond_both active.object.marked _ _ (λ (o : Outcome Task (Unit {0})). (carried_out tasks.objects task now o).0 ≡ deleted → active_at (carried_out tasks.objects task now o).1.table task ≡ None)
      (λ marked same. removed task active is marked)
      (λ unmarked same. let other = ap (λ (r : Replied). r.answer) same in cc)

-- a call leaves each marked task without holds
pub free_step : (state : MachineState) (task : ℕ) (now : Moment) (made : Call) → AllFree state.tasks → AllFree (step state task now made).1.tasks
free_step state task now made all = after_tasks state task now made AllFree all (task_frees state.tasks all task now made)

free_after : (entries : List Entry) (state : MachineState) → AllFree state.tasks → AllFree (replay_from state entries).tasks
free_after [] state all = all
free_after (entry ∷ entries) state all =
    free_after entries (after_entry state entry) (free_step state entry.task entry.now entry.call all)

-- a task that is marked for deletion is not held
pub marked_unheld : MarkedTasksAreUnheld
marked_unheld limits entries =
    free_after entries (opening limits)
    (λ id active is. absurd (no_active Task (type_number kind.Task) limits.tasks id active is))

gone_after : (state : MachineState) (task : ℕ) (now : Moment) (made : Call) → made ≡ call.Checkpoint → AllFree state.tasks → (step state task now made).0 ≡ deleted → task_at (step state task now made).1.tasks task ≡ None
gone_after state task now made is all =
    subst (λ m. (step state task now m).0 ≡ deleted → task_at (step state task now m).1.tasks task ≡ None) (sym is)
    (deleted_gone state.tasks all task now (task_at state.tasks task) refl)

-- a checkpoint that answers that its task was deleted has removed it
pub deleted_are_gone : DeletedTasksAreGone
deleted_are_gone limits before entry legal checkpoint replied =
    ap (λ s. task_at s.tasks entry.task) (replay_push (opening limits) before entry)
    ∙ gone_after (replay limits before) entry.task entry.now entry.call checkpoint (marked_unheld limits before)
    (sym (legal_last (opening limits) before entry legal) ∙ replied)
