-- The first place that passes, the first that is free, and what stands there.
use Rattle.std.proofs.Common.{◌≡◌, ◌<◌, ◌≤◌, ◌+◌, ◌++◌, suc, List, [], ◌∷◌, Option, Some, None, length, slice_set, refl, ap, arith}
use Rattle.osal_socket.specs.Net.{free_place, with_more}

-- one more stands in the place that is free
pub more_within : {X : Type 0} (places : List (Option X)) (more : X) → free_place places < length places
    → with_more places more ≡ slice_set places (free_place places) (Some more)
more_within [] more there = absurd (omega arith)
more_within (None ∷ places) more there = refl
more_within {X} (Some x ∷ places) more there =
    let rest : free_place places < length places = omega arith in
    let next : 1 + free_place places ≡ suc (free_place places) = omega arith in
    rw next (ap (λ (l : List (Option X)). Some x ∷ l) (more_within places more rest))

-- or behind the others, where none is
pub more_behind : {X : Type 0} (places : List (Option X)) (more : X) → length places ≤ free_place places
    → with_more places more ≡ places ++ Some more ∷ []
more_behind [] more full = refl
more_behind (None ∷ places) more full = absurd (omega arith)
more_behind {X} (Some x ∷ places) more full =
    let rest : length places ≤ free_place places = omega arith in
    ap (λ (l : List (Option X)). Some x ∷ l) (more_behind places more rest)
