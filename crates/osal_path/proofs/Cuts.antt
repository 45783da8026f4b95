-- The first part of a path, and the parts after it.
use Rattle.std.proofs.Common.{◌≡◌, ◌+◌, ◌-◌, ◌≤◌, ℕ, false, List, [], ◌∷◌, length, take, drop, Some, None, arith, sym, ap, ◌∙◌}
use Rattle.std.specs.List.{position}
use Rattle.std.proofs.lemmas.List.{take_rest}
use Rattle.std.proofs.lemmas.List.Elements.{All-from_get_or}
use Rattle.std.proofs.lemmas.List.Sums.{fails_before_first}
use Rattle.std.proofs.lemmas.List.Splits.{slice_split_none, slice_split_first, length-slice_split}
use Rattle.osal_path.specs.Path.{is_slash, parts}
use Rattle.osal_path.proofs.Positions.{place_found, place_missed}

-- a slash ends the first part
pub parts_at : (path : List ℕ) (at : ℕ) → position is_slash path ≡ Some at → parts path ≡ take at path ∷ parts (take (length path - (at + 1)) (drop (at + 1) path))
parts_at path at e =
    let place = place_found is_slash path at e in
    slice_split_first is_slash path 0 place.0
    ∙ ap (λ n. take n path ∷ parts (drop (n + 1) path)) place.1
    ∙ ap (λ rest. take at path ∷ parts rest) (sym (take_rest path (at + 1)))

-- a path with no slash is its one part
pub parts_whole : (path : List ℕ) → position is_slash path ≡ None → parts path ≡ path ∷ []
parts_whole path e =
    let past = place_missed is_slash path e in
    slice_split_none is_slash path
    (All-from_get_or (λ byte. is_slash byte ≡ false) path 0 (λ k h. fails_before_first is_slash path k 0 (omega arith)))

-- a path has at least one part
pub some_parts : (path : List ℕ) → 1 ≤ length (parts path)
some_parts path = let counted = length-slice_split is_slash path in omega arith
