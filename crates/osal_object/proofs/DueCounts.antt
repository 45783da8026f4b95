-- How many open waits have a deadline behind a moment.
use Rattle.std.proofs.Common.{◌≡◌, ◌≤◌, ◌+◌, ◌++◌, ℕ, Bool, List, [], ◌∷◌, length, map, filter, nat_lt, Option, Some, None, length-append, refl, ap, ◌∙◌, arith}
use Rattle.std.proofs.lemmas.Bool.{cond_both}
use Rattle.osal_base.specs.declared.time.Moment.{Moment}
use Rattle.osal_base.specs.declared.time.Timeout.{Timeout}
use Rattle.osal_base.specs.declared.time.Timeout.TheVariants as timeout
use Rattle.osal_base.specs.Time.{later, deadline_of}
use Rattle.osal_object.specs.declared.waits.WaitRecord.{WaitRecord}
use Rattle.osal_object.specs.Waits.{WaitsState, with_wait, without_wait, released_if, released_where}
use Rattle.osal_object.specs.Deadlines.{deadline_above, deadlines_in}

module _ {W : Type 0} (now : Moment) where
  -- how many of the waits have a deadline behind the moment
  abbrev pub due_count : WaitsState W → ℕ
  due_count waits = length (deadlines_in now waits.records)

  count_cons : (wait : WaitRecord W) (waits : List (WaitRecord W)) → length (deadlines_in now (wait ∷ waits)) ≡ length (deadline_above now wait.deadline) + length (deadlines_in now waits)
  count_cons wait waits = length-append (deadline_above now wait.deadline) (deadlines_in now waits)

  count_push : (waits : List (WaitRecord W)) (wait : WaitRecord W) → length (deadlines_in now (waits ++ wait ∷ [])) ≡ length (deadlines_in now waits) + length (deadline_above now wait.deadline)
  count_push [] wait = count_cons wait [] ∙ (omega arith)
  count_push (first ∷ waits) wait = let rest = count_push waits wait in let more = count_cons first (waits ++ wait ∷ []) in let less = count_cons first waits in omega arith

  count_filter : (keep : WaitRecord W → Bool) (waits : List (WaitRecord W)) → length (deadlines_in now (filter keep waits)) ≤ length (deadlines_in now waits)
  count_filter keep [] = omega arith
  count_filter keep (wait ∷ waits) =
      let rest = count_filter keep waits in
      cond_both (keep wait) _ _ (λ (list : List (WaitRecord W)). length (deadlines_in now list) ≤ length (deadlines_in now (wait ∷ waits)))
      (λ t. omega (arith, count_cons wait (filter keep waits), count_cons wait waits))
      (λ f. omega (arith, count_cons wait waits))

  same_deadline : (test : WaitRecord W → Bool) (wait : WaitRecord W) → (released_if test wait).deadline ≡ wait.deadline
  same_deadline test wait = cond_both (test wait) _ _ (λ (w : WaitRecord W). w.deadline ≡ wait.deadline) (λ t. refl) (λ f. refl)

  count_map : (test : WaitRecord W → Bool) (waits : List (WaitRecord W)) → deadlines_in now (map (released_if test) waits) ≡ deadlines_in now waits
  count_map test [] = refl
  count_map test (wait ∷ waits) = λ i. deadline_above now (same_deadline test wait i) ++ count_map test waits i

  -- a wait that is released keeps its deadline
  pub count_released : (waits : WaitsState W) (test : WaitRecord W → Bool) → due_count (released_where waits test) ≤ due_count waits
  count_released waits test = omega (arith, ap length (count_map test waits.records))

  -- without the wait of a task there are no more
  pub count_without : (waits : WaitsState W) (task : ℕ) → due_count (without_wait waits task) ≤ due_count waits
  count_without waits task = count_filter _ waits.records

  -- with one more wait there is one more at most
  pub count_with : (waits : WaitsState W) (wait : WaitRecord W) → due_count (with_wait waits wait) ≡ due_count waits + length (deadline_above now wait.deadline)
  count_with waits wait = count_push waits.records wait

-- a wait has one deadline at most
pub above_one : (now : Moment) (o : Option Moment) → length (deadline_above now o) ≤ 1
above_one now None = omega arith
above_one now (Some deadline) = cond_both (nat_lt now.ms deadline.ms) _ _ (λ (list : List ℕ). length list ≤ 1) (λ t. omega arith) (λ f. omega arith)

-- how many deadlines the wait of a call that may wait so long has at most
abbrev pub most_deadlines : Timeout → ℕ
most_deadlines timeout.Check = 1
most_deadlines timeout.Pend = 0
most_deadlines (timeout.Ms ms) = 1

-- it has no more
pub few_deadlines : (wait : Timeout) (now at : Moment) → length (deadline_above at (deadline_of wait now)) ≤ most_deadlines wait
few_deadlines timeout.Check now at = above_one at (Some now)
few_deadlines timeout.Pend now at = omega arith
few_deadlines (timeout.Ms ms) now at = above_one at (Some (later now ms))
