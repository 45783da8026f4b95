-- The least deadline of waits in two parts is the lesser of the least of each.
use Rattle.std.proofs.Common.{◌≡◌, ◌++◌, List, [], ◌∷◌, ℕ, Option, Some, None, refl, ap, ◌∙◌, arith}
use Rattle.osal_object.specs.Deadlines.{least_with, least, sooner}

-- the lesser of three numbers
least_of_three : (number : ℕ) (first second : Option ℕ) → least_with number (sooner first second) ≡ least_with (least_with number first) second
least_of_three number None second = refl
least_of_three number (Some first) None = refl
least_of_three number (Some first) (Some second) = omega arith

-- the least of two lists of numbers
pub least_append : (first second : List ℕ) → least (first ++ second) ≡ sooner (least first) (least second)
least_append [] second = refl
least_append (number ∷ first) second =
    ap (λ o. Some (least_with number o)) (least_append first second)
    ∙ ap Some (least_of_three number (least first) (least second))
