-- A change of the tasks that keeps each marked task without holds.
use Rattle.std.proofs.Common.{◌≡◌, ◌+◌, ◌-◌, ℕ, true, false, List, [], ◌∷◌, nat_lt, Option, Some, None, Result, Ok, Err, refl, sym, ap, subst, ◌∙◌, inl, inr, arith}
use Rattle.std.specs.Ordering.{nat_cmp}
use Rattle.std.specs.FinMap as map
use Rattle.std.proofs.lemmas.Bool.{cases_eq, cond_both, both_ways}
use Rattle.osal_base.specs.declared.status.Status.{Status}
use Rattle.osal_base.specs.Reply.{Replied}
use Rattle.osal_idtable.specs.declared.table.ReserveFault.{ReserveFault}
use Rattle.osal_idtable.specs.declared.table.IdFault.{IdFault}
use Rattle.osal_object.specs.declared.waits.WaitRecord.{WaitRecord}
use Rattle.osal_idtable.specs.Table.{Active, TableState, Reserved, active_at, with_active, replaced}
use Rattle.osal_idtable.specs.Steps.{reserve_step, settle, take_out, unheld}
use Rattle.osal_idtable.specs.Holds.{released, release_step}
use Rattle.osal_object.specs.Waits.{waits_on}
use Rattle.osal_object.specs.Waiting.{hold_each, release_each, begun, ended}
use Rattle.osal_object.specs.Objects.{ObjectsState, caller_hold_limit, with_value, created, create_step, delete_step, held_by_caller, hold_call_step, released_by_caller, release_call_step}
use Rattle.osal_idtable.proofs.WellFormed.{put_here, put_there, gone_here, gone_there}
use Rattle.osal_object.proofs.Activity.{reserve_active}
use Rattle.osal_task.specs.declared.part.Task.{Task}

-- a task that is marked for deletion is not held
abbrev pub IsFree : Active Task → Type 0
IsFree active = active.object.marked ≡ true → active.holds ≡ 0

-- each task that is marked for deletion is not held
abbrev pub AreFree : map.FinMap nat_cmp (Active Task) → Type 0
AreFree tasks = (id : ℕ) (active : Active Task) → map.get tasks id ≡ Some active → IsFree active

free_written : (tasks : map.FinMap nat_cmp (Active Task)) (id : ℕ) (new : Active Task) → AreFree tasks → IsFree new → AreFree (map.insert tasks id new)
free_written tasks id new all free other active is =
    elim (cases_eq other id) [
      | inl same ↦
          let found : Some new ≡ Some active = sym (ap (map.get (map.insert tasks id new)) same ∙ put_here tasks id new) ∙ is in
          let one : new ≡ active = cc in
          subst IsFree one free
      | inr ne ↦ all other active (sym (put_there tasks id new other ne) ∙ is)
    ]

free_removed : (tasks : map.FinMap nat_cmp (Active Task)) (id : ℕ) → AreFree tasks → AreFree (map.remove tasks id)
free_removed tasks id all other active is =
    elim (cases_eq other id) [
      | inl same ↦
          let found : None ≡ Some active = sym (ap (map.get (map.remove tasks id)) same ∙ gone_here tasks id) ∙ is in
          cc
      | inr ne ↦ all other active (sym (gone_there tasks id other ne) ∙ is)
    ]

free_taken : (table : TableState Task) (id : ℕ) (r : Result Task IdFault) → AreFree table.active → AreFree (take_out table id r).1.active
free_taken table id (Err fault) all = all
free_taken table id (Ok task) all = free_removed table.active id all

free_settled : (table : TableState Task) (id : ℕ) (name : Option (Option (List ℕ))) (task : Task) → AreFree table.active → AreFree (settle table id name (Some task)).active
free_settled table id None task all = all
free_settled table id (Some name) task all =
    free_written table.active id (record { name = name; holds = 0; object = task }) all (λ marked. refl)

free_less : (table : TableState Task) (id : ℕ) (active : Active Task) → active_at table id ≡ Some active → AreFree table.active → AreFree (with_active table id (record active { holds = active.holds - 1 })).active
free_less table id active is all =
    free_written table.active id (record active { holds = active.holds - 1 }) all
    (λ marked. let none = all id active is marked in omega arith)

free_released : (table : TableState Task) (id : ℕ) (found : Option (Active Task)) → active_at table id ≡ found → AreFree table.active → AreFree (released table id found).1.active
free_released table id None is all = all
free_released table id (Some active) is all =
    cond_both (nat_lt 0 active.holds) _ _ (λ (p : Result (Unit {0}) IdFault × TableState Task). AreFree p.1.active)
    (λ held. free_less table id active is all)
    (λ none. all)

free_each : (table : TableState Task) (ids : List ℕ) → AreFree table.active → AreFree (release_each table ids).active
free_each table [] all = all
free_each table (id ∷ ids) all =
    free_each (release_step table id).1 ids (free_released table id (active_at table id) refl all)

module _ (objects : ObjectsState Task (Unit {0})) (all : AreFree objects.table.active) where
  free_created : (name : List ℕ) (task : Task) (r : Result Reserved ReserveFault) → AreFree (created objects task r (reserve_step objects.table (Some name)).1).1.table.active
  free_created name task (Err fault) = all
  free_created name task (Ok reserved) =
      let table = (reserve_step objects.table (Some name)).1 in
      free_settled table reserved.id (map.get table.reserved reserved.id) task
      (subst AreFree (sym (reserve_active objects.table (Some name))) all)

  -- a new task
  pub free_create : (name : List ℕ) (task : Task) → AreFree (create_step objects (Some name) task).1.table.active
  free_create name task = free_created name task (reserve_step objects.table (Some name)).0

  -- a removal
  pub free_delete : (id : ℕ) → AreFree (delete_step objects id).1.table.active
  free_delete id = free_taken objects.table id (unheld (active_at objects.table id)) all

  -- another task in the place of one
  pub free_put : (id : ℕ) (task : Task) (active : Active Task) → active_at objects.table id ≡ Some active → IsFree (record active { object = task }) → AreFree (with_value objects id task).table.active
  free_put id task active is free =
      subst (λ o. AreFree (replaced objects.table id task o).active) (sym is)
      (free_written objects.table.active id (record active { object = task }) all free)

  free_more : (id : ℕ) (active : Active Task) → active.object.marked ≡ false → AreFree (held_by_caller objects id (Some active)).1.table.active
  free_more id active unmarked =
      cond_both (nat_lt active.holds caller_hold_limit) _ _ (λ (p : Replied × ObjectsState Task (Unit {0})). AreFree p.1.table.active)
      (λ below. free_written objects.table.active id (record active { holds = active.holds + 1 }) all (λ marked. absurd (both_ways active.object.marked unmarked marked)))
      (λ most. all)

  -- a hold of a task that is not marked
  pub free_hold : (id : ℕ) (active : Active Task) → active_at objects.table id ≡ Some active → active.object.marked ≡ false → AreFree (hold_call_step objects id).1.table.active
  free_hold id active is unmarked =
      subst (λ o. AreFree (held_by_caller objects id o).1.table.active) (sym is) (free_more id active unmarked)

  free_given_back : (id : ℕ) (found : Option (Active Task)) → active_at objects.table id ≡ found → AreFree (released_by_caller objects id found).1.table.active
  free_given_back id None is = all
  free_given_back id (Some active) is =
      cond_both (nat_lt (waits_on objects.waits id) active.holds) _ _ (λ (p : Replied × ObjectsState Task (Unit {0})). AreFree p.1.table.active)
      (λ more. free_less objects.table id active is all)
      (λ none. all)

  -- a hold that is given back
  pub free_release : (id : ℕ) → AreFree (release_call_step objects id).1.table.active
  free_release id = free_given_back id (active_at objects.table id) refl

  -- a wait that stands on nothing begins
  pub free_begun : (wait : WaitRecord (Unit {0})) (fault : Option Status) → wait.on ≡ [] → AreFree (begun objects wait fault).1.table.active
  free_begun wait (Some fault) none = all
  free_begun wait None none = subst (λ ids. AreFree (hold_each objects.table ids).active) (sym none) all

  -- a wait ends
  pub free_ended : (task : ℕ) (found : Option (WaitRecord (Unit {0}))) → AreFree (ended objects task found).table.active
  free_ended task None = all
  free_ended task (Some wait) = free_each objects.table wait.on all
