-- Time that goes on to the next deadline leaves fewer deadlines behind the moment.
use Rattle.std.proofs.Common.{◌≡◌, ◌≤◌, ◌<◌, ◌==◌, ◌+◌, ℕ, true, false, List, [], ◌∷◌, length, min, nat_lt, Option, Some, None, length-append, inl, inr, refl, sym, subst, ◌∙◌, arith}
use Rattle.std.specs.List.{list_any}
use Rattle.std.proofs.lemmas.Bool.{cases_Bool, cond_both, false≢true, ltb-true, lt-ltb, le-ltb, eqb-true, eq-eqb, or_cases, or_left, or_right, cases_lt}
use Rattle.std.proofs.lemmas.List.Folds.{list_any-append}
use Rattle.osal_base.specs.declared.time.Moment.{Moment}
use Rattle.osal_object.specs.declared.waits.WaitRecord.{WaitRecord}
use Rattle.osal_object.proofs.OpenWaits.{WaitsSeen}
use Rattle.osal_machine.specs.Step.{MachineState, part_in}
use Rattle.osal_machine.specs.OpenWaits.{part_numbers, deadlines_of}
use Rattle.osal_machine.specs.Deadlines.{deadlines_among}
use Rattle.osal_laws.proofs.DueCounts.{due_in, due_among, due_counts, fewer_among}
use Rattle.osal_laws.proofs.PartWaits.{of_each}
use Rattle.osal_runs.specs.Waiting.{deadlines, deadlines_in, deadline_above, least, least_with, next_deadline}
use Rattle.osal_runs.proofs.Segments.{first_of_or}
use Rattle.osal_runs.proofs.Deadlines.{next_behind}

-- the least of some numbers is among them
least_there : (numbers : List ℕ) (n : ℕ) → least numbers ≡ Some n → list_any (λ number. number == n) numbers ≡ true
least_there [] n is = cc
least_there (number ∷ numbers) n is = there_of number n (least numbers) numbers (λ other rest. least_there numbers other rest) is
  where
    there_of : (number n : ℕ) (o : Option ℕ) (numbers : List ℕ) → ((other : ℕ) → o ≡ Some other → list_any (λ m. m == other) numbers ≡ true) → Some (least_with number o) ≡ Some n → list_any (λ m. m == n) (number ∷ numbers) ≡ true
    there_of number n None numbers rest is = let same : number ≡ n = cc in or_left _ _ (eq-eqb number n same)
    there_of number n (Some other) numbers rest is =
        let same : min number other ≡ n = cc in
        elim (cases_lt number other) [
          | inl below ↦ or_left _ _ (eq-eqb number n (omega arith))
          | inr above ↦ or_right _ _ (let least : other ≡ n = omega arith in subst (λ m. list_any (λ k. k == m) numbers ≡ true) least (rest other refl))
        ]

module _ (now to : Moment) (later : now.ms < to.ms) where
  -- a deadline that lies behind the later moment lies behind the earlier one
  above_later : (o : Option Moment) → length (deadline_above to o) ≤ length (deadline_above now o)
  above_later None = omega arith
  above_later (Some deadline) =
      cond_both (nat_lt to.ms deadline.ms) _ _ (λ (list : List ℕ). length list ≤ length (deadline_above now (Some deadline)))
      (λ t. rw (lt-ltb now.ms deadline.ms (let behind = ltb-true to.ms deadline.ms t in omega arith)) (omega arith))
      (λ f. omega arith)

  count_later : {W : Type 0} (waits : List (WaitRecord W)) → length (deadlines_in to waits) ≤ length (deadlines_in now waits)
  count_later [] = omega arith
  count_later (wait ∷ waits) =
      let rest = count_later waits in
      omega (arith, above_later wait.deadline, length-append (deadline_above to wait.deadline) (deadlines_in to waits), length-append (deadline_above now wait.deadline) (deadlines_in now waits))

  -- a deadline at the later moment lies behind the earlier one alone
  above_fewer : (o : Option Moment) → list_any (λ n. n == to.ms) (deadline_above now o) ≡ true → length (deadline_above to o) + 1 ≤ length (deadline_above now o)
  above_fewer None there = absurd (false≢true there)
  above_fewer (Some deadline) there =
      elim (cases_Bool (nat_lt now.ms deadline.ms)) [
        | inl behind ↦
            let same : deadline.ms ≡ to.ms = eqb-true deadline.ms to.ms (first_of_or (deadline.ms == to.ms) false (rw behind at there) refl) in
            rw (behind, le-ltb to.ms deadline.ms (omega arith)) (omega arith)
        | inr passed ↦ absurd (false≢true (rw passed at there))
      ]

  count_fewer : {W : Type 0} (waits : List (WaitRecord W)) → list_any (λ n. n == to.ms) (deadlines_in now waits) ≡ true → length (deadlines_in to waits) + 1 ≤ length (deadlines_in now waits)
  count_fewer [] there = absurd (false≢true there)
  count_fewer (wait ∷ waits) there =
      let parts = or_cases (list_any (λ n. n == to.ms) (deadline_above now wait.deadline)) (list_any (λ n. n == to.ms) (deadlines_in now waits)) (sym (list_any-append (λ n. n == to.ms) (deadline_above now wait.deadline) (deadlines_in now waits)) ∙ there) in
      let before = length-append (deadline_above now wait.deadline) (deadlines_in now waits) in
      let behind = length-append (deadline_above to wait.deadline) (deadlines_in to waits) in
      elim parts [
        | inl here ↦ omega (arith, above_fewer wait.deadline here, count_later waits)
        | inr rest ↦ omega (arith, above_later wait.deadline, count_fewer waits rest)
      ]

  module _ (state : MachineState) where
    -- no part has more at the later moment
    later_in : (part : ℕ) → due_in to state part ≤ due_in now state part
    later_in part =
        of_each (λ (seen : WaitsSeen). length (seen.due to) ≤ length (seen.due now)) (λ W waits. count_later waits.records) (part_in part state)

    -- a part with a deadline at the later moment has fewer
    fewer_in : (part : ℕ) → list_any (λ n. n == to.ms) (deadlines_of now (part_in part state)) ≡ true → due_in to state part + 1 ≤ due_in now state part
    fewer_in part =
        of_each (λ (seen : WaitsSeen). list_any (λ n. n == to.ms) (seen.due now) ≡ true → length (seen.due to) + 1 ≤ length (seen.due now))
        (λ W waits. count_fewer waits.records) (part_in part state)

    fewer_parts : (parts : List ℕ) → list_any (λ n. n == to.ms) (deadlines_among now state parts) ≡ true → due_among to state parts + 1 ≤ due_among now state parts
    fewer_parts [] there = absurd (false≢true there)
    fewer_parts (part ∷ parts) there =
        elim (or_cases (list_any (λ n. n == to.ms) (deadlines_of now (part_in part state))) (list_any (λ n. n == to.ms) (deadlines_among now state parts)) (sym (list_any-append (λ n. n == to.ms) (deadlines_of now (part_in part state)) (deadlines_among now state parts)) ∙ there)) [
          | inl here ↦ omega (arith, fewer_in part here, fewer_among now to state state later_in parts)
          | inr rest ↦ omega (arith, later_in part, fewer_parts parts rest)
        ]

-- at the next deadline there are fewer behind the moment
pub due_fewer : (state : MachineState) (to : ℕ) → next_deadline state ≡ Some to → due_counts (record { ms = to }) state + 1 ≤ due_counts state.time.moment state
due_fewer state to is =
    fewer_parts state.time.moment (record { ms = to }) (next_behind state to is) state part_numbers (least_there (deadlines state) to is)
