-- The groups of a tick's bytes, each of which names a handler.
use Rattle.std.proofs.Common.{◌≡◌, ◌<◌, ◌≤◌, ◌+◌, ◌-◌, ◌*◌, ◌/◌, ◌∙◌, ℕ, zero, suc, true, false, List, [], ◌∷◌, length, drop, nat_lt, min, inl, inr, refl, ap, length-drop, arith}
use Rattle.std.proofs.lemmas.Bool.{cases_lt, cond-true, cond-false, cond_both}
use Rattle.std.proofs.lemmas.Bool.Decides.{nat_tests}
use Rattle.std.proofs.lemmas.List.{drop-drop}
use Rattle.osal_script.specs.Script.{handler_numbers}
use Rattle.osal_call.specs.Firing.{group_number}

first_number : (n : ℕ) (bytes : List ℕ) → 12 ≤ length bytes → handler_numbers (suc n) bytes ≡ group_number bytes ∷ handler_numbers n (drop 12 bytes)
unfolding handler_numbers
first_number n bytes whole =
    let test : nat_lt (length bytes) 12 ≡ false = grind (arith, nat_tests) in
    cond-false (nat_lt (length bytes) 12) [] (group_number bytes ∷ handler_numbers n (drop 12 bytes)) test

no_more : (n : ℕ) (bytes : List ℕ) → length bytes < 12 → handler_numbers n bytes ≡ []
unfolding handler_numbers
no_more zero bytes short = refl
no_more (suc n) bytes short =
    let test : nat_lt (length bytes) 12 ≡ true = grind (arith, nat_tests) in
    cond-true (nat_lt (length bytes) 12) [] (group_number bytes ∷ handler_numbers n (drop 12 bytes)) test

none : (bytes : List ℕ) → handler_numbers 0 bytes ≡ []
unfolding handler_numbers
none bytes = refl

-- from so many groups at most come so many numbers at most
pub few_numbers : (n : ℕ) (bytes : List ℕ) → length (handler_numbers n bytes) ≤ n
unfolding handler_numbers
few_numbers zero bytes = omega arith
few_numbers (suc n) bytes =
    let few = few_numbers n (drop 12 bytes) in
    cond_both (nat_lt (length bytes) 12) [] (group_number bytes ∷ handler_numbers n (drop 12 bytes)) (λ (numbers : List ℕ). length numbers ≤ suc n) (λ _. omega arith) (λ _. omega arith)

-- a group before others
pub one_group : (limit at : ℕ) (bytes : List ℕ) → 0 < at → at ≤ limit → 12 * at ≤ length bytes → handler_numbers (limit - (at - 1)) (drop (12 * (at - 1)) bytes) ≡ group_number (drop (12 * (at - 1)) bytes) ∷ handler_numbers (limit - at) (drop (12 * at) bytes)
one_group limit at bytes some within whole =
    let more : limit - (at - 1) ≡ suc (limit - at) = omega arith in
    let behind : 12 * (at - 1) + 12 ≡ 12 * at = omega arith in
    let here = drop (12 * (at - 1)) bytes in
    ap (λ (n : ℕ). handler_numbers n here) more
    ∙ first_number (limit - at) here (omega (arith, length-drop (12 * (at - 1)) bytes))
    ∙ ap (λ (rest : List ℕ). group_number here ∷ handler_numbers (limit - at) rest) (drop-drop 12 (12 * (at - 1)) bytes)
    ∙ ap (λ (n : ℕ). group_number here ∷ handler_numbers (limit - at) (drop n bytes)) behind

-- behind the last group that is whole and counts there is none
pub no_group : (limit at : ℕ) (bytes : List ℕ) → at ≡ min (length bytes / 12) limit → handler_numbers (limit - at) (drop (12 * at) bytes) ≡ []
no_group limit at bytes is =
    elim (cases_lt at limit) [
      | inl fewer ↦
          no_more (limit - at) (drop (12 * at) bytes) (omega (arith, length-drop (12 * at) bytes))
      | inr all ↦
          let left : limit - at ≡ 0 = omega arith in
          ap (λ (n : ℕ). handler_numbers n (drop (12 * at) bytes)) left ∙ none (drop (12 * at) bytes)
    ]
