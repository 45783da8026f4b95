-- What an entry begins: at most one segment, of a task with a slot that no other has.
use Rattle.std.proofs.Common.{◌≡◌, ◌⊎◌, ℕ, true, false, List, [], ◌∷◌, Option, Some, None, is_some, inl, inr, refl, sym, ap, subst, ◌∙◌, slice_get}
use Rattle.std.specs.List.{AllByRecursion}
use Rattle.std.proofs.lemmas.Bool.{cond_both, false≢true, eq-eqb}
use Rattle.osal_base.specs.Identifier.{slot_of}
use Rattle.osal_base.specs.Limits.{IsCapacity}
use Rattle.osal_base.specs.Reply.{Replied, reply_of}
use Rattle.osal_base.specs.declared.time.Moment.{Moment}
use Rattle.osal_idtable.specs.Table.{Active, is_slot_taken, active_at}
use Rattle.osal_idtable.proofs.WellFormed.{missed}
use Rattle.osal_task.specs.declared.part.Task.{Task}
use Rattle.osal_task.specs.Tasks.{TaskState}
use Rattle.osal_call.specs.declared.call.Call.{Call}
use Rattle.osal_call.specs.declared.call.Call.TheVariants as call
use Rattle.osal_call.specs.declared.call.Entry.{Entry}
use Rattle.osal_machine.specs.Step.{MachineState, step}
use Rattle.osal_script.specs.App.{Application, ScriptBody}
use Rattle.osal_script.specs.Script.{is_success}
use Rattle.osal_runs.specs.Segments.{Segment, segment_with, begun_by, begun}
use Rattle.osal_exec.specs.Running.{IsIdentifier}
use Rattle.osal_exec.proofs.Slots.{IsFreeId, fresh_task}

-- a segment that begins, with a slot that no task of the state has
pub record IsNew (state : MachineState) (new : Segment) : Type 0 where
  pub fresh : new.entries ≡ []
  pub id : IsFreeId state.tasks.objects.table new.id

-- no segment, or one that begins
abbrev pub AreNew : MachineState → List Segment → Type 0
AreNew state segments = (segments ≡ []) ⊎ ((new : Segment) × (segments ≡ new ∷ []) × IsNew state new)

-- a task that is created with a body, if there is one
segment_new : (state : MachineState) (id : ℕ) (name : List ℕ) (bodies : List ScriptBody) (o : Option ScriptBody) → IsFreeId state.tasks.objects.table id → AreNew state (segment_with id name bodies o)
segment_new state id name bodies None free = inl refl
segment_new state id name bodies (Some body) free =
    inr (record { id = id; name = name; bodies = bodies; body = body; entries = [] }, refl, record { fresh = refl; id = free })

-- what a call begins that succeeds
begun_new : (app : Application) (state : MachineState) → state.tasks.objects.table.kind ≡ 1 → IsCapacity state.tasks.objects.table.capacity → (task : ℕ) (now : Moment) (made : Call) → is_success (step state task now made).0.answer ≡ true → AreNew state (begun_by app made (step state task now made).0.number)
begun_new app state typed room task now (call.TaskCreate name body stack priority) good =
    segment_new state (step state task now (call.TaskCreate name body stack priority)).0.number name.bytes app.bodies (slice_get app.bodies body) (fresh_task state.tasks typed room task now name.bytes body stack priority good)
begun_new app state typed room task now _ good = inl refl

-- what an entry with the machine's reply begins
pub entry_begins : (app : Application) (state : MachineState) → state.tasks.objects.table.kind ≡ 1 → IsCapacity state.tasks.objects.table.capacity → (task : ℕ) (now : Moment) (made : Call) (entry : Entry) → entry.call ≡ made → reply_of entry.reply ≡ (step state task now made).0 → AreNew state (begun app entry)
entry_begins app state typed room task now made entry same replied =
    cond_both (is_success entry.reply.answer) (begun_by app entry.call entry.reply.number) [] (AreNew state)
    (λ good. subst (λ (r : Replied). AreNew state (begun_by app entry.call r.number)) (sym replied) (subst (λ c. AreNew state (begun_by app c (step state task now made).0.number)) (sym same) (begun_new app state typed room task now made (ap (λ (r : Replied). is_success r.answer) (sym replied) ∙ good))))
    (λ f. inl refl)

-- a segment that begins has an identifier of 32 bits
pub begun_small : (state : MachineState) (segments : List Segment) → AreNew state segments → AllByRecursion IsIdentifier segments
begun_small state segments (inl none) = subst (AllByRecursion IsIdentifier) (sym none) tt
begun_small state segments (inr one) = subst (AllByRecursion IsIdentifier) (sym one.1) (one.2.id.small, tt)

-- a slot that is free is no active task's
pub other_slot : (tasks : TaskState) (id other : ℕ) (o : Option (Active Task)) → active_at tasks.objects.table id ≡ o → is_some o ≡ true → is_slot_taken tasks.objects.table (slot_of other tasks.objects.table.capacity) ≡ false → slot_of id tasks.objects.table.capacity ≡ slot_of other tasks.objects.table.capacity → ⊥
other_slot tasks id other None is active free same = false≢true active
other_slot tasks id other (Some found) is active free same =
    false≢true (sym (missed tasks.objects.table id (slot_of other tasks.objects.table.capacity) found.name (Some found) free is refl) ∙ eq-eqb _ _ same)
