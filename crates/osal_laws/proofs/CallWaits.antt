-- What a call does to the open waits of the machine.
use Rattle.std.proofs.Common.{◌≡◌, ◌≤◌, ◌<◌, ℕ, true, false, cond, inl, inr, sym, ap, subst, ◌∙◌, arith}
use Rattle.std.proofs.lemmas.Bool.{cases_eq, cases_lt, false≢true, false_from_ne_true, lt-ltb, le-ltb, ne_eqb}
use Rattle.std.proofs.lemmas.Bool.Decides.{nat_tests}
use Rattle.osal_base.specs.declared.time.Moment.{Moment}
use Rattle.osal_base.specs.Reply.{Replied, is_waits}
use Rattle.osal_base.specs.Time.{is_check}
use Rattle.osal_object.proofs.OpenWaits.{SameWaits, same_waits, IsClosed}
use Rattle.osal_object.proofs.WaitSteps.{IsWaitStep, IsWaitEnd, Refuses, goes_on}
use Rattle.osal_task.specs.Tasks.{TaskState}
use Rattle.osal_call.specs.Call.{part_of, part_of_wait}
use Rattle.osal_machine.specs.Parts.{Absent, part_step}
use Rattle.osal_machine.specs.Step.{MachineState, part_in, step}
use Rattle.osal_machine.specs.OpenWaits.{has_wait, WaitsOnce}
use Rattle.osal_call.specs.declared.call.Call.{Call}
use Rattle.osal_call.specs.declared.call.Call.TheVariants as call
use Rattle.osal_laws.proofs.Own.{own_step, other_kept}
use Rattle.osal_laws.proofs.Known.{known_strays}
use Rattle.osal_laws.proofs.TaskKnown.{tasks_known}
use Rattle.osal_laws.proofs.KnownParts.{seen_in, known_part}
use Rattle.osal_call.specs.Signature.{timeout_of, ends_wait}

module _ (state : MachineState) (task : ℕ) (now : Moment) (made : Call) where
  -- the state that the call leaves
  abbrev left : MachineState
  left = (step state task now made).1

  -- each other part has the open waits that it had
  pub other_waits : (part : ℕ) → (part ≡ part_of made → ⊥) → SameWaits (seen_in (part_in part state)) (seen_in (part_in part left))
  other_waits part ne =
      subst (λ p. SameWaits (seen_in (part_in part state)) (seen_in p)) (sym (other_kept state task now made part ne)) (same_waits (seen_in (part_in part state)))

  -- a call that ends no wait leaves the open waits of its own part, or its task waits there
  pub own_waits : ends_wait made ≡ false → IsWaitStep (seen_in (part_in (part_of made) state)) task (timeout_of made) (step state task now made).0.answer (seen_in (part_in (part_of made) left))
  own_waits other =
      subst (λ p. IsWaitStep (seen_in (part_in (part_of made) state)) task (timeout_of made) (step state task now made).0.answer (seen_in p)) (sym (own_step state task now made))
      (let own = known_part state (part_of made) in own.waits task now made other)

  -- where the call's own part has the open waits that it had, each part has
  pub all_waits : SameWaits (seen_in (part_in (part_of made) state)) (seen_in (part_in (part_of made) left)) → (part : ℕ) → SameWaits (seen_in (part_in part state)) (seen_in (part_in part left))
  all_waits own part =
      elim (cases_eq part (part_of made)) [
        | inl same ↦ subst (λ n. SameWaits (seen_in (part_in n state)) (seen_in (part_in n left))) (sym same) own
        | inr ne ↦ other_waits part ne
      ]

  -- a call that neither waits nor ends a wait leaves all open waits
  pub check_waits : ends_wait made ≡ false → is_check (timeout_of made) ≡ true → (is_waits (step state task now made).0.answer ≡ false) × ((part : ℕ) → SameWaits (seen_in (part_in part state)) (seen_in (part_in part left)))
  check_waits other check = let own = goes_on check (own_waits other) in (own.0, all_waits own.1)

  -- no call makes a task wait twice in a part
  pub waits_once : (part other : ℕ) → WaitsOnce (part_in part state) other → WaitsOnce (part_in part left) other
  waits_once part other once =
      elim (cases_eq part (part_of made)) [
        | inl same ↦
            subst (λ n. WaitsOnce (part_in n state) other → WaitsOnce (part_in n left) other) (sym same)
            (λ o. subst (λ p. WaitsOnce p other) (sym (own_step state task now made)) (let own = known_part state (part_of made) in own.once task now made other o)) once
        | inr ne ↦ subst (λ p. WaitsOnce p other) (sym (other_kept state task now made part ne)) once
      ]

-- no part has a number above 8
none_far : (state : MachineState) (part : ℕ) → 8 < part → part_in part state ≡ Absent
none_far state part far = grind (arith, nat_tests)

-- a part in which a task waits has a number of a part
pub near_part : (state : MachineState) (task part : ℕ) → has_wait (part_in part state) task ≡ true → part ≤ 8
near_part state task part some =
    elim (cases_lt 8 part) [
      | inl far ↦ absurd (false≢true (ap (λ p. has_wait p task) (sym (none_far state part far)) ∙ some))
      | inr near ↦ near
    ]

-- a wait in a part is of that part
pub of_near : (part : ℕ) → part ≤ 8 → part_of_wait part ≡ part
of_near part near = ap (λ b. cond b 0 part) (le-ltb 8 part near)

-- a wait in a part that is not there is of the task part
of_far : (part : ℕ) → 8 < part → part_of_wait part ≡ 0
of_far part far = ap (λ b. cond b 0 part) (lt-ltb 8 part far)

module _ (state : MachineState) (task : ℕ) (now : Moment) where
  -- the task part refuses it
  far_answered : (part : ℕ) → 8 < part → is_waits (step state task now (call.WaitEnd part)).0.answer ≡ false
  far_answered part far =
      subst (λ n. is_waits (part_step (part_in n state) task now (call.WaitEnd part)).0.answer ≡ false) (sym (of_far part far))
      (ap (λ (s : Replied × TaskState). is_waits s.0.answer) (known_strays tasks_known state.tasks task now part (ne_eqb part 0 (λ zero. absurd (omega arith)))))

  -- the end of a wait in a part
  pub end_at : (part : ℕ) → IsWaitEnd (seen_in (part_in part state)) task (step state task now (call.WaitEnd part)).0.answer (seen_in (part_in part (step state task now (call.WaitEnd part)).1))
  end_at part =
      elim (cases_lt 8 part) [
        | inl far ↦
            Refuses (false_from_ne_true (has_wait (part_in part state) task) (λ some. let near = near_part state task part some in absurd (omega arith))) (far_answered part far)
        | inr near ↦
            let made : Call = call.WaitEnd part in
            let own : part_of made ≡ part = of_near part near in
            subst (λ n. IsWaitEnd (seen_in (part_in n state)) task (step state task now made).0.answer (seen_in (part_in n (step state task now made).1))) own
            (subst (λ p. IsWaitEnd (seen_in (part_in (part_of made) state)) task (step state task now made).0.answer (seen_in p)) (sym (own_step state task now made))
            (subst (λ n. IsWaitEnd (seen_in (part_in n state)) task (part_step (part_in n state) task now made).0.answer (seen_in (part_step (part_in n state) task now made).1)) (sym own)
            (let at_part = known_part state part in at_part.ends task now)))
      ]

  -- a wait in a part that is given up
  pub abandon_at : (part : ℕ) → has_wait (part_in part state) task ≡ true → IsClosed (seen_in (part_in part state)) (seen_in (part_in part (step state task now (call.WaitAbandon part)).1)) task
  abandon_at part some =
      let made : Call = call.WaitAbandon part in
      let own : part_of made ≡ part = of_near part (near_part state task part some) in
      subst (λ n. IsClosed (seen_in (part_in n state)) (seen_in (part_in n (step state task now made).1)) task) own
      (subst (λ p. IsClosed (seen_in (part_in (part_of made) state)) (seen_in p) task) (sym (own_step state task now made))
      (subst (λ n. IsClosed (seen_in (part_in n state)) (seen_in (part_step (part_in n state) task now made).1) task) (sym own)
      (let at_part = known_part state part in at_part.abandons task now some)))

  -- each other part has the open waits that it had
  pub others_kept : (made : Call) (part : ℕ) → part ≤ 8 → part_of made ≡ part_of_wait part → (other : ℕ) → (other ≡ part → ⊥) → SameWaits (seen_in (part_in other state)) (seen_in (part_in other (step state task now made).1))
  others_kept made part near of_part other ne =
      other_waits state task now made other (λ same. ne (same ∙ of_part ∙ of_near part near))
