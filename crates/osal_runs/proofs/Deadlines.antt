-- The next deadline lies behind the moment.
use Rattle.std.proofs.Common.{◌≡◌, ◌<◌, ℕ, List, [], ◌∷◌, min, nat_lt, Option, Some, None, inl, inr, refl, subst, arith}
use Rattle.std.specs.List.{AllByRecursion}
use Rattle.std.proofs.lemmas.Bool.{cases_lt, cond_both, ltb-true}
use Rattle.osal_base.specs.declared.time.Moment.{Moment}
use Rattle.osal_object.specs.declared.waits.WaitRecord.{WaitRecord}
use Rattle.osal_object.proofs.OpenWaits.{WaitsSeen}
use Rattle.osal_machine.specs.Step.{MachineState, part_in}
use Rattle.osal_machine.specs.OpenWaits.{part_numbers, deadlines_of}
use Rattle.osal_machine.specs.Deadlines.{deadlines_among}
use Rattle.osal_laws.proofs.PartWaits.{of_each}
use Rattle.osal_runs.specs.Waiting.{deadline_above, deadlines_in, deadlines, least_with, least, next_deadline}
use Rattle.osal_runs.proofs.Joining.{all_more}

-- the lesser of two numbers is one of them
lesser : (P : ℕ → Type 0) (a b : ℕ) → P a → P b → P (min a b)
lesser P a b first second =
    elim (cases_lt a b) [
      | inl below ↦ let is : a ≡ min a b = omega arith in subst P is first
      | inr above ↦ let is : b ≡ min a b = omega arith in subst P is second
    ]

least_of : (P : ℕ → Type 0) (number n : ℕ) (o : Option ℕ) → P number → ((other : ℕ) → o ≡ Some other → P other) → Some (least_with number o) ≡ Some n → P n
least_of P number n None here rest is = let same : number ≡ n = cc in subst P same here
least_of P number n (Some other) here rest is =
    let same : min number other ≡ n = cc in subst P same (lesser P number other here (rest other refl))

-- what holds of each of some numbers holds of the least
pub least_all : (P : ℕ → Type 0) (numbers : List ℕ) (n : ℕ) → AllByRecursion P numbers → least numbers ≡ Some n → P n
least_all P [] n all is = cc
least_all P (number ∷ numbers) n all is =
    least_of P number n (least numbers) all.0 (λ other rest. least_all P numbers other all.1 rest) is

module _ (now : Moment) where
  above_all : (o : Option Moment) → AllByRecursion (λ n. now.ms < n) (deadline_above now o)
  above_all None = tt
  above_all (Some deadline) =
      cond_both (nat_lt now.ms deadline.ms) _ _ (AllByRecursion (λ n. now.ms < n)) (λ t. (ltb-true now.ms deadline.ms t, tt)) (λ f. tt)

  in_all : {W : Type 0} (waits : List (WaitRecord W)) → AllByRecursion (λ n. now.ms < n) (deadlines_in now waits)
  in_all [] = tt
  in_all (wait ∷ waits) = all_more (λ n. now.ms < n) (deadline_above now wait.deadline) (deadlines_in now waits) (above_all wait.deadline) (in_all waits)

  -- the deadlines of some parts lie behind the moment
  among_all : (state : MachineState) (parts : List ℕ) → AllByRecursion (λ n. now.ms < n) (deadlines_among now state parts)
  among_all state [] = tt
  among_all state (part ∷ parts) =
      all_more (λ n. now.ms < n) (deadlines_of now (part_in part state)) (deadlines_among now state parts)
      (of_each (λ (seen : WaitsSeen). AllByRecursion (λ n. now.ms < n) (seen.due now)) (λ W waits. in_all waits.records) (part_in part state))
      (among_all state parts)

-- the next deadline lies behind the moment
pub next_behind : (state : MachineState) (to : ℕ) → next_deadline state ≡ Some to → state.time.moment.ms < to
next_behind state to is =
    least_all (λ n. state.time.moment.ms < n) (deadlines state) to (among_all state.time.moment state part_numbers) is
