-- What the calls by which a task ends leave of the tasks.
use Rattle.std.proofs.Common.{◌≡◌, ℕ, true, false, cond, nat_lt, ◌⊎◌, Option, Some, None, is_some, Result, Ok, Err, inl, inr, refl, sym, ap, subst, ◌∙◌, arith}
use Rattle.std.specs.FinMap as map
use Rattle.std.proofs.lemmas.Bool.{cond-true, cond-false, cases_Bool, false≢true}
use Rattle.std.proofs.lemmas.Bool.Decides.{nat_tests}
use Rattle.osal_base.specs.declared.time.Moment.{Moment}
use Rattle.osal_base.specs.Reply.{Replied, success, goes_on, deleted}
use Rattle.osal_idtable.specs.declared.table.IdFault.{IdFault}
use Rattle.osal_idtable.specs.Table.{Active}
use Rattle.osal_idtable.specs.Faults.{answered}
use Rattle.osal_idtable.specs.Steps.{unheld, take_out, remove_step}
use Rattle.osal_object.specs.Objects.{with_table}
use Rattle.osal_object.specs.Outcomes.{Go, Remove, Leave, found_then, carried_out}
use Rattle.osal_idtable.proofs.WellFormed.{gone_here, gone_there}
use Rattle.osal_task.specs.declared.part.Task.{Task}
use Rattle.osal_task.specs.Tasks.{TaskState, task_at, in_tasks, done}

-- no task that is marked for deletion is held
abbrev pub AreUnheld : TaskState → Type 0
AreUnheld tasks = (id : ℕ) (active : Active Task) → task_at tasks id ≡ Some active → active.object.marked ≡ true → active.holds ≡ 0

-- a task is no longer active; the others are as before
pub record IsWithout (old new : TaskState) (task : ℕ) : Type 0 where
  pub own : is_some (task_at new task) ≡ false
  pub others : (other : ℕ) → (other ≡ task → ⊥) → is_some (task_at new other) ≡ is_some (task_at old other)

module _ (tasks : TaskState) (task : ℕ) (now : Moment) where
  -- the exit of the calling task
  abbrev pub exited : Replied × TaskState
  exited = done tasks task now (Remove task)

  -- its checkpoint, by the task that is found
  abbrev pub passed_by : Option (Active Task) → Replied × TaskState
  passed_by found =
      in_tasks (found_then tasks.objects (λ active. carried_out tasks.objects task now (cond active.object.marked (Leave task) Go)) found)

  -- a task is removed
  removed_without : IsWithout tasks (record { objects = with_table tasks.objects (record tasks.objects.table { active = map.remove tasks.objects.table.active task }) }) task
  removed_without = record {
    own = ap is_some (gone_here tasks.objects.table.active task);
    others = λ other ne. ap is_some (gone_there tasks.objects.table.active task other ne);
  }

  -- an exit is refused and leaves the tasks, or removes the task
  exit_by : (r : Result Task IdFault) → (let stepped : Replied × TaskState = in_tasks (answered (take_out tasks.objects.table task r).0, with_table tasks.objects (take_out tasks.objects.table task r).1) in (stepped.1 ≡ tasks) ⊎ ((stepped.0 ≡ success) × IsWithout tasks stepped.1 task))
  exit_by (Err fault) = inl refl
  exit_by (Ok object) = inr (refl, removed_without)

  -- an exit does so
  pub exit_outcome : (exited.1 ≡ tasks) ⊎ ((exited.0 ≡ success) × IsWithout tasks exited.1 task)
  exit_outcome = exit_by (unheld (task_at tasks task))

  -- a task that nobody holds can be removed
  removable : (a : Active Task) → a.holds ≡ 0 → unheld (Some a) ≡ Ok a.object
  removable a none = cond-false (nat_lt 0 a.holds) _ _ (grind (arith, nat_tests))

  -- an active task's checkpoint lets it go on, or removes it
  pub passed_outcome : (o : Option (Active Task)) → task_at tasks task ≡ o → is_some o ≡ true → AreUnheld tasks → (passed_by o ≡ (goes_on, tasks)) ⊎ (((passed_by o).0 ≡ deleted) × IsWithout tasks (passed_by o).1 task)
  passed_outcome None is some all = absurd (false≢true some)
  passed_outcome (Some a) is some all =
      elim (cases_Bool a.object.marked) [
        | inr off ↦ inl (ap (done tasks task now) (cond-false a.object.marked (Leave task) Go off))
        | inl on ↦
            let gone : remove_step tasks.objects.table task ≡ take_out tasks.objects.table task (Ok a.object) = ap (take_out tasks.objects.table task) (ap unheld is ∙ removable a (all task a is on)) in
            let stepped : passed_by (Some a) ≡ (deleted, record { objects = with_table tasks.objects (record tasks.objects.table { active = map.remove tasks.objects.table.active task }) }) = ap (done tasks task now) (cond-true a.object.marked (Leave task) Go on) ∙ (λ i. (deleted, record { objects = with_table tasks.objects (gone i).1 })) in
            inr (ap (λ (p : Replied × TaskState). p.0) stepped, subst (λ (p : Replied × TaskState). IsWithout tasks p.1 task) (sym stepped) removed_without)
      ]
