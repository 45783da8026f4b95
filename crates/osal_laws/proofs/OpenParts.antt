-- A part has an open wait where some task has one in it.
use Rattle.std.proofs.Common.{◌≡◌, ℕ, Bool, true, false, List, [], ◌∷◌, find, length, is_some, nat_lt, refl, ◌∙◌, arith}
use Rattle.std.proofs.lemmas.Bool.{false≢true, or_left, eq-eqb, lt-ltb}
use Rattle.osal_object.specs.declared.waits.WaitRecord.{WaitRecord}
use Rattle.osal_object.specs.Waits.{is_of, wait_of}
use Rattle.osal_object.proofs.OpenWaits.{found_any}
use Rattle.osal_machine.specs.Parts.{PartState}
use Rattle.osal_machine.specs.OpenWaits.{has_wait, has_waits}
use Rattle.osal_laws.proofs.Places.{by_waits}

module _ {W : Type 0} where
  first_waits : (waits : List (WaitRecord W)) → nat_lt 0 (length waits) ≡ true → (task : ℕ) × (is_some (find (is_of task) waits) ≡ true)
  first_waits [] some = absurd (false≢true some)
  first_waits (wait ∷ waits) some = (wait.task, found_any (is_of wait.task) (wait ∷ waits) ∙ or_left _ _ (eq-eqb wait.task wait.task refl))

  some_waits : (waits : List (WaitRecord W)) (task : ℕ) → is_some (find (is_of task) waits) ≡ true → nat_lt 0 (length waits) ≡ true
  some_waits [] task found = absurd (false≢true found)
  some_waits (wait ∷ waits) task found = lt-ltb 0 (length (wait ∷ waits)) (omega arith)

-- where a part has an open wait, some task has it
pub waits_there : (part : PartState) → has_waits part ≡ true → (task : ℕ) × (has_wait part task ≡ true)
waits_there part =
    by_waits (λ look. look Bool (λ W waits. nat_lt 0 (length waits.records)) false ≡ true → (task : ℕ) × (look Bool (λ W waits. is_some (wait_of waits task)) false ≡ true))
    (λ W waits. first_waits waits.records) (λ some. absurd (false≢true some)) part

-- where a task has an open wait in a part, the part has one
pub has_there : (part : PartState) (task : ℕ) → has_wait part task ≡ true → has_waits part ≡ true
has_there part task =
    by_waits (λ look. look Bool (λ W waits. is_some (wait_of waits task)) false ≡ true → look Bool (λ W waits. nat_lt 0 (length waits.records)) false ≡ true)
    (λ W waits. some_waits waits.records task) (λ some. absurd (false≢true some)) part
