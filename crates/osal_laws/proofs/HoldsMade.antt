-- Since an object became active its holds are the accepted holds less the accepted releases, and the waits on it.
use Rattle.std.proofs.Common.{◌≡◌, ◌+◌, ℕ, true, false, List, [], ◌∷◌, ◌++◌, inl, inr, refl, sym, ap, subst, ◌∙◌, arith}
use Rattle.std.proofs.lemmas.Bool.{cases_eq}
use Rattle.osal_base.specs.declared.time.Moment.{Moment}
use Rattle.osal_base.specs.Reply.{Replied}
use Rattle.osal_idtable.proofs.Keyed.{apart}
use Rattle.osal_call.specs.declared.call.Call.{Call}
use Rattle.osal_call.specs.declared.call.Call.TheVariants as call
use Rattle.osal_call.specs.declared.call.Entry.{Entry}
use Rattle.osal_call.specs.Call.{part_of, part_of_id}
use Rattle.osal_machine.specs.Parts.{PartState, is_active_in}
use Rattle.osal_machine.specs.Step.{MachineState, opening, part_in, step, is_active}
use Rattle.osal_machine.specs.History.{IsLegalFrom, after_entry, replay_from, replay}
use Rattle.osal_laws.specs.Laws.{AreCounted, holds_in}
use Rattle.osal_laws.specs.Holds.{is_hold_of, is_release_of, accepted, waits_in, StaysActive, HoldsAreThoseMade}
use Rattle.osal_laws.proofs.Own.{own_step, other_kept}
use Rattle.osal_laws.proofs.Counted.{counted_from, objects_counted}
use Rattle.osal_laws.proofs.Histories.{replay_push, replay_split, legal_rest}
use Rattle.osal_laws.proofs.NewObjects.{entry_new}
use Rattle.osal_laws.proofs.TimeKnown.{fits}
use Rattle.osal_laws.proofs.Shifts.{counts}
use Rattle.osal_laws.proofs.KnownParts.{known_part}

-- the holds of an identifier of a part beside the waits on it rise by some and fall by others, where it is active
abbrev ShiftsIn : ℕ → ℕ → ℕ → PartState → PartState → Type 0
ShiftsIn q more less old new =
    is_active_in old q ≡ true → is_active_in new q ≡ true → holds_in new q + waits_in old q + less ≡ holds_in old q + waits_in new q + more

-- they do by what a call is and answers
abbrev ShiftsPart : ℕ → Call → PartState → Replied × PartState → Type 0
ShiftsPart q made old stepped =
    ShiftsIn q (counts (is_hold_of q made) stepped.0.answer) (counts (is_release_of q made) stepped.0.answer) old stepped.1

module _ (state : MachineState) (counted : AreCounted state) (task : ℕ) (now : Moment) (made : Call) (q : ℕ) where
  not_hold : (other : Call) → (part_of_id q ≡ part_of other → ⊥) → is_hold_of q other ≡ false
  not_hold (call.Hold id) ne = apart id q (λ same. ne (ap part_of_id (sym same)))
  not_hold _ ne = refl

  not_release : (other : Call) → (part_of_id q ≡ part_of other → ⊥) → is_release_of q other ≡ false
  not_release (call.Release id) ne = apart id q (λ same. ne (ap part_of_id (sym same)))
  not_release _ ne = refl

  -- a call of the machine shifts the holds of an identifier by what it is and answers
  step_shifts : ShiftsPart q made (part_in (part_of_id q) state) ((step state task now made).0, part_in (part_of_id q) (step state task now made).1)
  step_shifts =
      elim (cases_eq (part_of_id q) (part_of made)) [
        | inl own ↦
            subst (λ n. ShiftsPart q made (part_in n state) ((step state task now made).0, part_in n (step state task now made).1)) (sym own)
            (subst (λ p. ShiftsPart q made (part_in (part_of made) state) ((step state task now made).0, p)) (sym (own_step state task now made)) (let own = known_part state (part_of made) in let tells = own.shifts counted task now made q in tells.told))
        | inr ne ↦
            subst (λ p. ShiftsPart q made (part_in (part_of_id q) state) ((step state task now made).0, p)) (sym (other_kept state task now made (part_of_id q) ne))
            (λ was also.
            let no_hold = ap (λ b. counts b (step state task now made).0.answer) (not_hold made ne) in
            let no_release = ap (λ b. counts b (step state task now made).0.answer) (not_release made ne) in
            omega arith)
      ]

module _ (q : ℕ) where
  -- the part of the identifier
  abbrev own_in : MachineState → PartState
  own_in state = part_in (part_of_id q) state

  -- over any legal entries between which the identifier stays active
  since : (entries : List Entry) (state : MachineState) → AreCounted state → IsLegalFrom state entries → is_active state q ≡ true → StaysActive state q entries → holds_in (own_in (replay_from state entries)) q + waits_in (own_in state) q + accepted (is_release_of q) entries ≡ holds_in (own_in state) q + waits_in (own_in (replay_from state entries)) q + accepted (is_hold_of q) entries
  since [] state counted legal active stays = omega arith
  since (entry ∷ entries) state counted legal active stays =
      let next = after_entry state entry in
      let one = step_shifts state counted entry.task entry.now entry.call q active stays.0 in
      let rest = since entries next (counted_from state (entry ∷ []) counted) legal.1 stays.0 stays.1 in
      let hold = ap (λ (r : Replied). counts (is_hold_of q entry.call) r.answer) legal.0 in
      let release = ap (λ (r : Replied). counts (is_release_of q entry.call) r.answer) legal.0 in
      omega arith

-- the holds of an object are the accepted holds less the accepted releases since it became active, and the waits on it
pub holds_made : HoldsAreThoseMade
holds_made limits before first after id fits legal made stays =
    let old = replay limits before in
    let start = after_entry old first in
    let at_start : replay limits (before ++ first ∷ []) ≡ start = replay_push (opening limits) before first in
    let at_end = replay_split (opening limits) before first after in
    let counted : AreCounted start = counted_from old (first ∷ []) (objects_counted limits before fits) in
    let active : is_active start id ≡ true = ap (λ s. is_active s id) (sym at_start) ∙ made.is in
    let rest = legal_rest (opening limits) before (first ∷ after) legal in
    let none = entry_new old first counted id (part_of_id id) made.was active in
    let all = since id after start counted rest.1 active (subst (λ s. StaysActive s id after) at_start stays) in
    subst (λ s. holds_in (part_in (part_of_id id) s) id + accepted (is_release_of id) after ≡ accepted (is_hold_of id) after + waits_in (part_in (part_of_id id) s) id) (sym at_end) (omega arith)
