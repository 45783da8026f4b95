-- What a part becomes depends on its own entries alone.
use Rattle.std.proofs.Common.{◌≡◌, ◌==◌, ℕ, List, [], ◌∷◌, refl, ap, sym, subst, ◌∙◌}
use Rattle.std.proofs.lemmas.Bool.{cond_both, eqb-true, eqb-false}
use Rattle.osal_call.specs.declared.call.Entry.{Entry}
use Rattle.osal_call.specs.Call.{part_of}
use Rattle.osal_machine.specs.Parts.{PartState, part_step}
use Rattle.osal_machine.specs.Step.{MachineState, opening, part_in}
use Rattle.osal_machine.specs.History.{after_entry, replay_from, entries_of_part}
use Rattle.osal_laws.specs.Laws.{PartsReplayAlone}
use Rattle.osal_laws.proofs.Own.{own_step, other_kept}

module _ (part : ℕ) where
  -- two states agree on the part
  abbrev Agree : MachineState → MachineState → Type 0
  Agree state other = part_in part state ≡ part_in part other

  -- an entry of the part leaves states that agree
  own_agree : (state other : MachineState) (entry : Entry) → part_of entry.call ≡ part → Agree state other → Agree (after_entry state entry) (after_entry other entry)
  own_agree state other entry own same =
      let P : ℕ → Type 0 = λ p. part_in p state ≡ part_in p other → part_in p (after_entry state entry) ≡ part_in p (after_entry other entry) in
      subst P own
      (λ agree.
      own_step state entry.task entry.now entry.call
      ∙ ap (λ (p : PartState). (part_step p entry.task entry.now entry.call).1) agree
      ∙ sym (own_step other entry.task entry.now entry.call))
      same

  -- the entries of the part alone leave what all of them leave
  alone_agree : (entries : List Entry) (state other : MachineState) → Agree state other → Agree (replay_from state entries) (replay_from other (entries_of_part part entries))
  alone_agree [] state other same = same
  alone_agree (entry ∷ entries) state other same =
      cond_both (part_of entry.call == part) (entry ∷ entries_of_part part entries) (entries_of_part part entries)
      (λ (rest : List Entry). Agree (replay_from state (entry ∷ entries)) (replay_from other rest))
      (λ own. alone_agree entries (after_entry state entry) (after_entry other entry) (own_agree state other entry (eqb-true (part_of entry.call) part own) same))
      (λ not. alone_agree entries (after_entry state entry) other (other_kept state entry.task entry.now entry.call part (λ is. eqb-false (part_of entry.call) part not (sym is)) ∙ same))

-- the replay of a part depends on its own entries alone
pub parts_alone : PartsReplayAlone
parts_alone limits entries part = alone_agree part entries (opening limits) (opening limits) refl
