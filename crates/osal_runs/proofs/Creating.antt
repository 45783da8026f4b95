-- What the creation of a task leaves: a task under an identifier that was not active.
use Rattle.std.proofs.Common.{◌≡◌, ◌==◌, ℕ, true, false, List, [], ◌∷◌, nat_lt, Option, Some, None, is_some, Result, inl, inr, refl, sym, ap, ◌∙◌, arith}
use Rattle.std.specs.List.{list_any}
use Rattle.std.specs.Ordering.{nat_cmp, eq_by_cmp}
use Rattle.std.specs.FinMap as map
use Rattle.std.proofs.lemmas.Bool.{cond_both, cases_eq, false≢true, or_parts, not-true, eq-eqb}
use Rattle.osal_base.specs.Name.{name_fault}
use Rattle.osal_base.specs.declared.name.NameFault.{NameFault}
use Rattle.osal_base.specs.declared.name.NameFault.TheVariants as name_fault_of
use Rattle.osal_base.specs.Identifier.{slot_of}
use Rattle.osal_base.specs.declared.time.Moment.{Moment}
use Rattle.osal_base.specs.Reply.{Replied, gives}
use Rattle.osal_idtable.specs.declared.place.Place.{Place}
use Rattle.osal_idtable.specs.declared.table.ReserveFault.{ReserveFault}
use Rattle.osal_idtable.specs.Table.{Active, TableState, Reserved, active_at, is_name_taken, is_slot_taken}
use Rattle.osal_idtable.specs.Next.{next_place, is_free_at, id_at_place}
use Rattle.osal_idtable.specs.Steps.{issue, settle}
use Rattle.osal_idtable.specs.Faults.{unless}
use Rattle.osal_object.specs.Objects.{ObjectsState, with_table, created, create_step}
use Rattle.osal_object.specs.Outcomes.{Outcome}
use Rattle.osal_idtable.proofs.Keyed.{ties, apart}
use Rattle.osal_idtable.proofs.Steps.{find_passes}
use Rattle.osal_idtable.proofs.WellFormed.{put_here, put_there}
use Rattle.osal_task.specs.declared.part.Task.{Task}
use Rattle.osal_task.specs.Tasks.{TaskState, in_tasks, task_at, new_task, done, task_create}
use Rattle.osal_base.specs.Limits.{lowest_priority}
use Rattle.osal_script.specs.Script.{is_success}

-- a key whose slot no entry has is not found
not_found : {X : Type 0} (slot : ℕ → ℕ) (q : ℕ) (es : List (ℕ × X)) → list_any (λ e. slot e.0 == slot q) es ≡ false → is_some (map.find nat_cmp q es) ≡ false
not_found slot q [] none = refl
not_found slot q (e ∷ es) none =
    let parts = or_parts (slot e.0 == slot q) (list_any (λ e. slot e.0 == slot q) es) none in
    elim (cases_eq q e.0) [
      | inl same ↦ absurd (false≢true (sym parts.0 ∙ eq-eqb (slot e.0) (slot q) (ap slot (sym same))))
      | inr ne ↦
          let other : eq_by_cmp nat_cmp q e.0 ≡ false = ties q e.0 ∙ apart q e.0 ne in
          rw other (not_found slot q es parts.1)
    ]

-- an identifier whose slot is free is not active
free_inactive : {T : Type 0} (table : TableState T) (id : ℕ) → is_slot_taken table (slot_of id table.capacity) ≡ false → is_some (active_at table id) ≡ false
free_inactive table id free =
    let parts = or_parts (list_any (λ e. slot_of e.0 table.capacity == slot_of id table.capacity) (map.entries table.active)) (list_any (λ e. slot_of e.0 table.capacity == slot_of id table.capacity) (map.entries table.reserved)) free in
    ap is_some (map.get-entries table.active id) ∙ not_found (λ k. slot_of k table.capacity) id (map.entries table.active) parts.0

-- a task is new under an identifier that was not active; the others are as before
pub record IsWith (old new : TaskState) (id : ℕ) : Type 0 where
  pub fresh : is_some (task_at old id) ≡ false
  pub own : is_some (task_at new id) ≡ true
  pub others : (other : ℕ) → (other ≡ id → ⊥) → is_some (task_at new other) ≡ is_some (task_at old other)
  pub some : old.objects.table.kind ≡ 1 → id ≡ 0 → ⊥

-- a creation is refused and leaves the tasks, or gives the identifier of a new one
pub data IsCreation (tasks : TaskState) (stepped : Replied × TaskState) : Type 0 where
  Refuses : stepped.1 ≡ tasks → is_success stepped.0.answer ≡ false → IsCreation tasks stepped
  Makes : (id : ℕ) → stepped.0 ≡ gives id → IsWith tasks stepped.1 id → IsCreation tasks stepped

module _ (tasks : TaskState) (name : List ℕ) (task : Task) where
  -- the table with the identifier at the place reserved
  abbrev reserved_at : Place → TableState Task
  reserved_at place = record tasks.objects.table {
    reserved = map.insert tasks.objects.table.reserved (id_at_place tasks.objects.table place) (Some name);
    last = place.serial;
    wraps = place.wraps;
  }

  -- the tasks with one more
  with_new : (place : Place) → is_free_at tasks.objects.table place ≡ true → (o : Option (Option (List ℕ))) → o ≡ Some (Some name) → IsWith tasks (record { objects = with_table tasks.objects (settle (reserved_at place) (id_at_place tasks.objects.table place) o (Some task)) }) (id_at_place tasks.objects.table place)
  with_new place free None is = cc
  with_new place free (Some other) is =
      let id : ℕ = id_at_place tasks.objects.table place in
      let value : Active Task = record { name = other; holds = 0; object = task } in
      record {
        fresh = free_inactive tasks.objects.table id (not-true _ free);
        own = ap is_some (put_here tasks.objects.table.active id value);
        others = λ q ne. ap is_some (put_there tasks.objects.table.active id value q ne);
        some = λ one zero. omega arith;
      }

  issued : (o : Option Place) → next_place tasks.objects.table ≡ o → IsCreation tasks (in_tasks (created tasks.objects task (issue tasks.objects.table (Some name) o).0 (issue tasks.objects.table (Some name) o).1))
  issued None is = Refuses refl refl
  issued (Some place) is =
      Makes (id_at_place tasks.objects.table place) refl
      (with_new place (find_passes (is_free_at tasks.objects.table) _ place is) (map.get (reserved_at place).reserved (id_at_place tasks.objects.table place)) (put_here tasks.objects.table.reserved (id_at_place tasks.objects.table place) (Some name)))

  -- a creation under a name that is no fault
  create_creates : IsCreation tasks (in_tasks (create_step tasks.objects (Some name) task))
  create_creates =
      cond_both (is_name_taken tasks.objects.table (Some name)) _ _ (λ (r : Result Reserved ReserveFault × TableState Task). IsCreation tasks (in_tasks (created tasks.objects task r.0 r.1)))
      (λ t. Refuses refl refl)
      (λ f. issued (next_place tasks.objects.table) refl)

-- whatever the name
unless_creates : (tasks : TaskState) (fault : Option NameFault) (otherwise : Replied × ObjectsState Task (Unit {0})) → IsCreation tasks (in_tasks otherwise) → IsCreation tasks (in_tasks (unless fault tasks.objects otherwise))
unless_creates tasks None otherwise creates = creates
unless_creates tasks (Some name_fault_of.Empty) otherwise creates = Refuses refl refl
unless_creates tasks (Some name_fault_of.TooLong) otherwise creates = Refuses refl refl
unless_creates tasks (Some name_fault_of.HasZero) otherwise creates = Refuses refl refl

-- the creation of a task is refused, or makes one
pub task_creates : (tasks : TaskState) (task : ℕ) (now : Moment) (name : List ℕ) (body stack priority : ℕ) → IsCreation tasks (done tasks task now (task_create name body stack priority))
task_creates tasks task now name body stack priority =
    unless_creates tasks (name_fault name) _
    (cond_both (nat_lt lowest_priority priority) _ _ (λ (o : Outcome Task (Unit {0})). IsCreation tasks (done tasks task now o)) (λ t. Refuses refl refl) (λ f. create_creates tasks name (new_task body stack priority)))
