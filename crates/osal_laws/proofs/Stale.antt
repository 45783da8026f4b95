-- A call on an identifier that is not active is refused by that.
use Rattle.std.proofs.Common.{◌≡◌, ℕ, Bool, false, refl, ap, sym, subst, ◌∙◌}
use Rattle.std.proofs.lemmas.Bool.{true≢false}
use Rattle.osal_base.specs.declared.status.Status.TheVariants as status
use Rattle.osal_base.specs.declared.time.Moment.{Moment}
use Rattle.osal_base.specs.Reply.{Replied, refusal}
use Rattle.osal_call.specs.declared.call.Call.{Call}
use Rattle.osal_call.specs.declared.call.Call.TheVariants as call
use Rattle.osal_call.specs.Signature.{Subject, Table, signature, part_of, part_of_id, part_of_table, id_of, is_refused_before, ends_wait}
use Rattle.osal_call.specs.Signature as what
use Rattle.osal_machine.specs.Parts.{part_step}
use Rattle.osal_machine.specs.Step.{MachineState, part_in, step}
use Rattle.osal_machine.specs.History.{replay}
use Rattle.osal_laws.specs.Laws.{StaleIdentifiersAreRefused, is_active_among, is_there}
use Rattle.osal_laws.proofs.Histories.{legal_last}
use Rattle.osal_laws.proofs.TimeKnown.{timebases_stale, timers_stale}
use Rattle.osal_io.proofs.Known.{streams_stale, directories_stale}
use Rattle.osal_laws.proofs.KnownParts.{known_part}

-- a call is refused, since its identifier is not active
abbrev IsStale : Replied → Type 0
IsStale reply = reply ≡ refusal status.ErrInvalidId

-- a call on an object is of the part of its table, and one on the calling task of the task part
abbrev IsPlaced : ℕ → Subject → Type 0
IsPlaced part what.Nothing = part ≡ part
IsPlaced part what.Caller = part ≡ 0
IsPlaced part (what.Object table id) = part ≡ part_of_table table id

placed : (made : Call) → IsPlaced (part_of made) (signature made).subject
placed call.Checkpoint = refl
placed _ = refl

-- a call on an object ends no wait
abbrev EndsNone : Bool → Subject → Type 0
EndsNone ends what.Nothing = ends ≡ ends
EndsNone ends what.Caller = ends ≡ false
EndsNone ends (what.Object table id) = ends ≡ false

ends_none : (made : Call) → EndsNone (ends_wait made) (signature made).subject
ends_none call.Checkpoint = refl
ends_none _ = refl

module _ (state : MachineState) (task : ℕ) (now : Moment) (made : Call) (may : is_refused_before made ≡ false) where
  -- the part of a number answers a call of its own
  in_part : (number : ℕ) → part_of made ≡ number → IsStale (part_step (part_in number state) task now made).0 → IsStale (step state task now made).0
  in_part number at stale = subst (λ n. IsStale (part_step (part_in n state) task now made).0) (sym at) stale

  -- a call on an object of a table
  on_table : (table : Table) (id : ℕ) → (signature made).subject ≡ what.Object table id → part_of made ≡ part_of_table table id → ends_wait made ≡ false → is_active_among state table id ≡ false → IsStale (step state task now made).0
  on_table what.Timebases id is at ends none = in_part 6 at (timebases_stale state.time task now made id is may none)
  on_table what.Timers id is at ends none = in_part 6 at (timers_stale state.time task now made id is may none)
  on_table what.Streams id is at ends none = in_part 7 at (streams_stale state.io task now made id is may none)
  on_table what.Directories id is at ends none =
      in_part 7 at (directories_stale state.io task now made id is may none)
  on_table what.OfType id is at ends none =
      let own = known_part state (part_of_id id) in
      in_part (part_of_id id) at (own.stale task now made id at ends may is none)
  on_table table id is at ends none =
      let own = known_part state (part_of_table table id) in
      in_part (part_of_table table id) at (own.stale_alone refl task now made id at ends may (ap (id_of task) is) none)

  -- a call by the object that it is on
  by_subject : (subject : Subject) → (signature made).subject ≡ subject → IsPlaced (part_of made) subject → EndsNone (ends_wait made) subject → is_there state task subject ≡ false → IsStale (step state task now made).0
  by_subject what.Nothing is at ends none = absurd (true≢false none)
  by_subject what.Caller is at ends none =
      let own = known_part state 0 in
      in_part 0 at (own.stale_alone refl task now made task at ends may (ap (id_of task) is) none)
  by_subject (what.Object table id) is at ends none = on_table table id is at ends none

-- an entry on an identifier that is not active is refused by that
pub stale_refused : StaleIdentifiersAreRefused
stale_refused limits before entry legal none may =
    legal_last _ before entry legal
    ∙ by_subject (replay limits before) entry.task entry.now entry.call may (signature entry.call).subject refl (placed entry.call) (ends_none entry.call) none
