-- How many open waits of the machine have a deadline behind a moment, counted part by part.
use Rattle.std.proofs.Common.{◌≡◌, ◌≤◌, ◌<◌, ◌+◌, ℕ, suc, Bool, true, List, [], ◌∷◌, length, length-append, inl, inr, refl, sym, subst, arith}
use Rattle.std.specs.List.{list_any}
use Rattle.std.proofs.lemmas.Bool.{cases_eq, or_left, or_right}
use Rattle.osal_base.specs.declared.time.Moment.{Moment}
use Rattle.osal_machine.specs.Step.{MachineState, part_in}
use Rattle.osal_machine.specs.OpenWaits.{part_numbers, deadlines_of}
use Rattle.osal_machine.specs.Deadlines.{deadlines_among, deadlines}

-- how many of the open waits of a part have a deadline behind a moment
abbrev pub due_in : Moment → MachineState → ℕ → ℕ
due_in now state part = length (deadlines_of now (part_in part state))

-- the same of some parts
abbrev pub due_among : Moment → MachineState → List ℕ → ℕ
due_among now state [] = 0
due_among now state (part ∷ parts) = due_in now state part + due_among now state parts

-- the same of all
abbrev pub due_counts : Moment → MachineState → ℕ
due_counts now state = due_among now state part_numbers

among_counted : (now : Moment) (state : MachineState) (parts : List ℕ) → length (deadlines_among now state parts) ≡ due_among now state parts
among_counted now state [] = refl
among_counted now state (part ∷ parts) =
    let rest = among_counted now state parts in
    let both = length-append (deadlines_of now (part_in part state)) (deadlines_among now state parts) in omega arith

-- how many deadlines lie behind the moment
pub deadlines_counted : (state : MachineState) → length (deadlines state) ≡ due_counts state.time.moment state
deadlines_counted state = among_counted state.time.moment state part_numbers

-- the numbers from one on, one after another
abbrev pub AreFrom : ℕ → List ℕ → Type 0
AreFrom low [] = Unit {0}
AreFrom low (n ∷ numbers) = (n ≡ low) × AreFrom (suc low) numbers

-- the numbers of the parts are those from 0 on
pub parts_from : AreFrom 0 part_numbers
parts_from = (refl, (refl, (refl, (refl, (refl, (refl, (refl, (refl, (refl, tt)))))))))

-- what passes a test is among them
any_among : (test : ℕ → Bool) (n low : ℕ) (numbers : List ℕ) → AreFrom low numbers → low ≤ n → n < low + length numbers → test n ≡ true → list_any test numbers ≡ true
any_among test n low [] from least most passes = absurd (omega arith)
any_among test n low (first ∷ numbers) from least most passes =
    elim (cases_eq n first) [
      | inl same ↦ or_left _ _ (subst (λ k. test k ≡ true) same passes)
      | inr ne ↦
          let is = from.0 in
          let above : suc low ≤ n = omega arith in
          let below : n < suc low + length numbers = omega arith in
          or_right _ _ (any_among test n (suc low) numbers from.1 above below passes)
    ]

-- a part that passes a test is among the numbers of the parts
pub any_part : (test : ℕ → Bool) (part : ℕ) → part ≤ 8 → test part ≡ true → list_any test part_numbers ≡ true
any_part test part near passes = any_among test part 0 part_numbers parts_from (omega arith) (omega arith) passes

module _ (before after : Moment) (old new : MachineState) where
  -- where no part has more, some parts have no more
  pub fewer_among : ((part : ℕ) → due_in after new part ≤ due_in before old part) → (parts : List ℕ) → due_among after new parts ≤ due_among before old parts
  fewer_among each [] = omega arith
  fewer_among each (part ∷ parts) =
      let rest = fewer_among each parts in let here = each part in omega arith

  -- where no part has more, the machine has no more
  pub due_less : ((part : ℕ) → due_in after new part ≤ due_in before old part) → due_counts after new ≤ due_counts before old
  due_less each = fewer_among each part_numbers

  module _ (part more : ℕ) (own : due_in after new part ≤ due_in before old part + more) (others : (other : ℕ) → (other ≡ part → ⊥) → due_in after new other ≤ due_in before old other) where
    fewer_behind : (low : ℕ) (parts : List ℕ) → AreFrom low parts → part < low → due_among after new parts ≤ due_among before old parts
    fewer_behind low [] from behind = omega arith
    fewer_behind low (n ∷ parts) from behind =
        let is = from.0 in
        let here = others n (λ same. absurd (omega arith)) in
        let below : part < suc low = omega arith in
        let rest = fewer_behind (suc low) parts from.1 below in omega arith

    more_among : (low : ℕ) (parts : List ℕ) → AreFrom low parts → due_among after new parts ≤ due_among before old parts + more
    more_among low [] from = omega arith
    more_among low (n ∷ parts) from =
        let is = from.0 in
        elim (cases_eq n part) [
          | inl same ↦
              let here : due_in after new n ≤ due_in before old n + more = subst (λ k. due_in after new k ≤ due_in before old k + more) (sym same) own in
              let below : part < suc low = omega arith in
              let rest = fewer_behind (suc low) parts from.1 below in omega arith
          | inr ne ↦
              let here = others n ne in
              let rest = more_among (suc low) parts from.1 in omega arith
        ]

    -- where one part has so many more, the machine has no more than that
    pub due_more : due_counts after new ≤ due_counts before old + more
    due_more = more_among 0 part_numbers parts_from
