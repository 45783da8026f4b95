-- A script reads all handlers of a tick.
use Rattle.std.proofs.Common.{◌≡◌, ◌≤◌, ◌*◌, ℕ, zero, suc, true, List, [], ◌∷◌, length, drop, nat_lt, length-drop, inl, inr, refl, sym, ap, ◌∙◌, arith}
use Rattle.std.proofs.lemmas.Bool.{cond-true, cond-false, cases_Bool}
use Rattle.std.proofs.lemmas.Bool.Decides.{nat_tests}
use Rattle.osal_call.specs.Firing.{timer_limit, group_number}
use Rattle.osal_script.specs.Script.{handler_numbers}
use Rattle.osal_laws.proofs.Attached.{ticks_few}
use Rattle.osal_runs.specs.Ticks.{TicksAreReadWhole}

few_short : (bytes : List ℕ) → length bytes ≤ 0 → nat_lt (length bytes) 12 ≡ true
few_short bytes few = grind (arith, nat_tests)

-- bytes of fewer than a whole group have no numbers
short_none : (n : ℕ) (bytes : List ℕ) → nat_lt (length bytes) 12 ≡ true → handler_numbers n bytes ≡ []
unfolding handler_numbers
short_none zero bytes short = refl
short_none (suc n) bytes short = cond-true (nat_lt (length bytes) 12) _ _ short

-- the numbers are the same from any number of groups that is enough
pub numbers_enough : (n m : ℕ) (bytes : List ℕ) → length bytes ≤ 12 * n → length bytes ≤ 12 * m → handler_numbers n bytes ≡ handler_numbers m bytes
unfolding handler_numbers
numbers_enough zero zero bytes one another = refl
numbers_enough zero (suc m) bytes one another = sym (short_none (suc m) bytes (few_short bytes (omega arith)))
numbers_enough (suc n) zero bytes one another = short_none (suc n) bytes (few_short bytes (omega arith))
numbers_enough (suc n) (suc m) bytes one another =
    elim (cases_Bool (nat_lt (length bytes) 12)) [
      | inl short ↦ short_none (suc n) bytes short ∙ sym (short_none (suc m) bytes short)
      | inr long ↦
          let left = length-drop 12 bytes in
          let rest : handler_numbers n (drop 12 bytes) ≡ handler_numbers m (drop 12 bytes) = numbers_enough n m (drop 12 bytes) (omega arith) (omega arith) in
          cond-false (nat_lt (length bytes) 12) _ _ long
          ∙ ap (λ numbers. group_number bytes ∷ numbers) rest
          ∙ sym (cond-false (nat_lt (length bytes) 12) _ _ long)
    ]

-- a script reads all handlers of a tick
pub ticks_are_read_whole : TicksAreReadWhole
ticks_are_read_whole limits before entry id usecs fits legal is =
    let few = ticks_few limits before entry id usecs fits legal is in
    numbers_enough timer_limit (length entry.reply.bytes.bytes) entry.reply.bytes.bytes (omega arith) (omega arith)
