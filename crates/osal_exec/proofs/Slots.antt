-- A new task gets a slot that no active task has, and the number of slots stays.
use Rattle.std.proofs.Common.{◌≡◌, ◌<◌, ◌^◌, ℕ, true, false, cond, nat_lt, List, [], ◌∷◌, Option, Some, None, Result, refl, ◌∙◌, arith}
use Rattle.std.proofs.lemmas.Bool.{cond_both, false≢true, not-true}
use Rattle.osal_base.specs.Identifier.{compose, slot_of}
use Rattle.osal_base.specs.Limits.{IsCapacity}
use Rattle.osal_base.specs.declared.limits.Limits.{Limits}
use Rattle.osal_base.specs.declared.name.NameFault.{NameFault}
use Rattle.osal_base.specs.declared.name.NameFault.TheVariants as fault
use Rattle.osal_base.specs.declared.status.Status.TheVariants as status
use Rattle.osal_base.specs.Name.{name_fault}
use Rattle.osal_base.specs.declared.time.Moment.{Moment}
use Rattle.osal_base.specs.Reply.{Replied}
use Rattle.osal_idtable.specs.declared.place.Place.{Place}
use Rattle.osal_idtable.specs.declared.table.ReserveFault.{ReserveFault}
use Rattle.osal_idtable.specs.Table.{TableState, Reserved, is_name_taken, is_slot_taken}
use Rattle.osal_idtable.specs.Next.{next_place, place_of, candidates, is_free_at}
use Rattle.osal_idtable.specs.Steps.{issue}
use Rattle.osal_idtable.specs.Faults.{unless}
use Rattle.osal_object.specs.Objects.{ObjectsState, created, create_step}
use Rattle.osal_object.specs.Outcomes.{Outcome, Refuse, Make, carried_out}
use Rattle.osal_idtable.proofs.Steps.{find_passes}
use Rattle.osal_idtable.proofs.WellFormed.{small}
use Rattle.osal_task.specs.declared.part.Task.{Task}
use Rattle.osal_task.specs.Tasks.{TaskState, in_tasks, new_task, done, task_create}
use Rattle.osal_base.specs.Limits.{lowest_priority}
use Rattle.osal_call.specs.declared.call.Entry.{Entry}
use Rattle.osal_machine.specs.Step.{MachineState, opening}
use Rattle.osal_laws.proofs.TasksKept.{shape_kept}
use Rattle.osal_machine.specs.History.{after_entry, replay_from, replay}
use Rattle.osal_script.specs.Script.{is_success}

-- an identifier whose slot was free, and which has 32 bits
pub record IsFreeId {T : Type 0} (table : TableState T) (id : ℕ) : Type 0 where
  pub free : is_slot_taken table (slot_of id table.capacity) ≡ false
  pub small : id < 2 ^ 32

-- an identifier of a task is small where its serial is
small_task : (kind serial : ℕ) → kind ≡ 1 → serial < 65536 → compose kind serial < 2 ^ 32
small_task kind serial typed below = omega arith

module _ {T W : Type 0} (objects : ObjectsState T W) (typed : objects.table.kind ≡ 1) (room : IsCapacity objects.table.capacity) (name : List ℕ) (object : T) where
  -- whether what a create answered is success under an identifier with a free slot
  abbrev IsFresh : Replied × ObjectsState T W → Type 0
  IsFresh made = is_success made.0.answer ≡ true → IsFreeId objects.table made.0.number

  -- an object that stands at the next place
  fresh_at : (o : Option Place) → next_place objects.table ≡ o → IsFresh (created objects object (issue objects.table (Some name) o).0 (issue objects.table (Some name) o).1)
  fresh_at None is = λ good. absurd (false≢true good)
  fresh_at (Some place) is =
      let passes = find_passes (is_free_at objects.table) (candidates objects.table.capacity objects.table.capacity (place_of objects.table)) place is in
      let below = small (is_free_at objects.table) objects.table.capacity objects.table.capacity (place_of objects.table) place room is in
      λ good. record { free = not-true _ passes; small = small_task objects.table.kind place.serial typed below }

  -- an object that is created
  fresh_object : IsFresh (create_step objects (Some name) object)
  fresh_object =
      cond_both (is_name_taken objects.table (Some name)) _ _ (λ (r : Result Reserved ReserveFault × TableState T). IsFresh (created objects object r.0 r.1))
      (λ t. λ good. absurd (false≢true good))
      (λ f. fresh_at (next_place objects.table) refl)

module _ (tasks : TaskState) (typed : tasks.objects.table.kind ≡ 1) (room : IsCapacity tasks.objects.table.capacity) where
  module _ (caller : ℕ) (now : Moment) (name : List ℕ) (task : Task) where
    -- whether what a create of a task answered is success under an identifier with a free slot
    abbrev IsFreshTask : Replied × TaskState → Type 0
    IsFreshTask made = is_success made.0.answer ≡ true → IsFreeId tasks.objects.table made.0.number

    fresh_under : (f : Option NameFault) → IsFreshTask (in_tasks (unless f tasks.objects (carried_out tasks.objects caller now (cond (nat_lt lowest_priority task.priority) (Refuse status.ErrInvalidPriority) (Make name task)))))
    fresh_under (Some fault.Empty) = λ good. absurd (false≢true good)
    fresh_under (Some fault.TooLong) = λ good. absurd (false≢true good)
    fresh_under (Some fault.HasZero) = λ good. absurd (false≢true good)
    fresh_under None =
        cond_both (nat_lt lowest_priority task.priority) _ _ (λ (o : Outcome Task (Unit {0})). IsFreshTask (done tasks caller now o)) (λ t. λ good. absurd (false≢true good)) (λ f. fresh_object tasks.objects typed room name task)

  -- a new task has a slot that no task had
  pub fresh_task : (caller : ℕ) (now : Moment) (name : List ℕ) (body stack priority : ℕ) → is_success (done tasks caller now (task_create name body stack priority)).0.answer ≡ true → IsFreeId tasks.objects.table (done tasks caller now (task_create name body stack priority)).0.number
  fresh_task caller now name body stack priority =
      fresh_under caller now name (new_task body stack priority) (name_fault name)

-- entries leave the number of slots
replay_slots : (state : MachineState) (entries : List Entry) → (replay_from state entries).tasks.objects.table.capacity ≡ state.tasks.objects.table.capacity
replay_slots state [] = refl
replay_slots state (entry ∷ entries) =
    replay_slots (after_entry state entry) entries ∙ (shape_kept state entry.task entry.now entry.call).capacity

-- a journal leaves as many slots of tasks as its limits say
pub slots_of_journal : (limits : Limits) (entries : List Entry) → (replay limits entries).tasks.objects.table.capacity ≡ limits.tasks
slots_of_journal limits entries = replay_slots (opening limits) entries
