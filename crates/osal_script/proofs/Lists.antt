-- What stands at a place of a list, and the front of a list as a stack.
use Rattle.std.proofs.Common.{◌≡◌, ◌<◌, ◌+◌, ◌∙◌, ℕ, List, [], ◌∷◌, Some, length, take, drop, reverse, set, get_or, slice_get, ap}
use Rattle.std.proofs.lemmas.List.{take_more, take_more_set, drop_more, reverse-append}
use Rattle.std.proofs.lemmas.Option.{slice_get_within, get_or_from_slice_get}

-- from a place on a list begins with what stands there
pub begins_with : {A : Type 0} (list : List A) (at : ℕ) (found : A) → slice_get list at ≡ Some found → (at < length list) × (drop at list ≡ found ∷ drop (at + 1) list)
begins_with list at found is =
    let within = slice_get_within list at found is in
    (within, drop_more list at found within ∙ ap (λ x. x ∷ drop (at + 1) list) (get_or_from_slice_get list at found found is))

-- a stack with one more on it
pub one_more : {A : Type 0} (list : List A) (depth : ℕ) (next : A) → depth < length list → reverse (take (depth + 1) (set list depth next)) ≡ next ∷ reverse (take depth list)
one_more list depth next within =
    ap reverse (take_more_set list depth next within) ∙ reverse-append (take depth list) (next ∷ [])

-- the last on a stack
pub innermost : {A : Type 0} (list : List A) (depth : ℕ) (otherwise : A) → depth < length list → reverse (take (depth + 1) list) ≡ get_or list depth otherwise ∷ reverse (take depth list)
innermost list depth otherwise within =
    ap reverse (take_more list depth otherwise within)
    ∙ reverse-append (take depth list) (get_or list depth otherwise ∷ [])
