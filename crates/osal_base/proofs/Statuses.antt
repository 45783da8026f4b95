-- A number that no status has is not found in the table.
use Rattle.std.proofs.Common.{◌≡◌, ◌≢◌, Bool, true, false, List, [], ◌∷◌, None, ℤ, Decides, refl}
use Rattle.std.specs.List.{find}
use Rattle.std.specs.Ordering.{int_eq}
use Rattle.std.proofs.lemmas.Bool.Decides.{Decides-int_eq}
use Rattle.osal_base.specs.declared.status.Status.{Status}
use Rattle.osal_base.specs.Status.{number_of, all_statuses, status_of}

-- a test of what does not hold answers false
false_where_not : (b : Bool) {P : Type 0} → Decides b P → (P → ⊥) → b ≡ false
false_where_not false d not_so = refl
false_where_not true d not_so = absurd (not_so (d.0 refl))

-- nothing is found where the test answers false at each element
find_nothing : (p : Status → Bool) → ((s : Status) → p s ≡ false) → (statuses : List Status) → find p statuses ≡ None
find_nothing p never [] = refl
find_nothing p never (s ∷ statuses) = rw (never s) (find_nothing p never statuses)

-- the table has no status with a number that no status has
pub status_of_none : (number : ℤ) → ((s : Status) → number_of s ≢ number) → status_of number ≡ None
status_of_none number not_any =
    find_nothing (λ s. int_eq (number_of s) number) (λ s. false_where_not _ (Decides-int_eq (number_of s) number) (not_any s)) all_statuses
