-- A step makes at most one identifier active or not active: one move of a table does, and no call makes two such moves.
use Rattle.std.proofs.Common.{◌≡◌, ℕ, inl, inr, sym, ap, subst, ◌∙◌}
use Rattle.std.proofs.lemmas.Bool.{cases_eq}
use Rattle.osal_base.specs.declared.time.Moment.{Moment}
use Rattle.osal_call.specs.declared.call.Call.{Call}
use Rattle.osal_call.specs.Call.{part_of, part_of_id}
use Rattle.osal_machine.specs.Parts.{part_step, is_active_in}
use Rattle.osal_machine.specs.Step.{MachineState, part_in, step}
use Rattle.osal_laws.specs.Steps.{Turns, StepsTurnOne}
use Rattle.osal_laws.proofs.Own.{own_at, other_kept}
use Rattle.osal_io.proofs.Makes.{AllButOne}
use Rattle.osal_laws.proofs.KnownParts.{known_part}

module _ (state : MachineState) (task : ℕ) (now : Moment) (made : Call) where
  abbrev one : AllButOne (λ q. is_active_in (part_in (part_of made) state) q) (λ q. is_active_in (part_step (part_in (part_of made) state) task now made).1 q)
  one = let own = known_part state (part_of made) in own.one task now made

  -- what is made active or not active is of the call's part, and the one there
  turned_is : (id : ℕ) → Turns state (step state task now made).1 id → id ≡ one.0
  turned_is id turned =
      elim (cases_eq (part_of_id id) (part_of made)) [
        | inr other ↦
            absurd (turned (ap (λ p. is_active_in p id) (other_kept state task now made (part_of_id id) other)))
        | inl own ↦ elim (cases_eq id one.0) [
          | inl same ↦ same
          | inr ne ↦
              absurd (turned (ap (λ p. is_active_in p id) (own_at state task now made (part_of_id id) own)
              ∙ subst (λ n. is_active_in (part_step (part_in n state) task now made).1 id ≡ is_active_in (part_in n state) id) (sym own) (one.1 id ne)))
        ]
      ]

-- a step makes at most one identifier active or not active
pub steps_turn_one : StepsTurnOne
steps_turn_one state task now made id other turned also =
    turned_is state task now made id turned ∙ sym (turned_is state task now made other also)
