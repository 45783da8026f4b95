-- Paths: where a node stands, as the names from the root down to it.
use Rattle.std.specs.Prelude.{List, [], ◌∷◌, ℕ, Bool, true, false, ◌++◌, ◌-◌, ◌+◌, ◌&&◌, ◌==◌, length, take, drop, nat_lt, if◌then◌else◌}
use Rattle.std.specs.Str.{bytes_eq}
use Rattle.std.specs.declared.cmp.Ordering.{Ordering}
use Rattle.std.specs.Ordering.{nat_cmp}
use Rattle.std.specs.Cmp.Lexicographic.{slice_cmp}

-- paths in the order of the bytes of their names
abbrev pub path_cmp : List (List ℕ) → List (List ℕ) → Ordering
path_cmp = slice_cmp (slice_cmp nat_cmp)

-- whether a path is the upper one, or leads on from it
abbrev pub is_within : List (List ℕ) → List (List ℕ) → Bool
is_within [] at = true
is_within (name ∷ upper) [] = false
is_within (name ∷ upper) (other ∷ at) = bytes_eq name other && is_within upper at

-- whether a path leads on from the upper one
abbrev pub is_below : List (List ℕ) → List (List ℕ) → Bool
is_below upper at = is_within upper at && nat_lt (length upper) (length at)

-- whether a path leads on from the upper one by one name
abbrev pub is_child : List (List ℕ) → List (List ℕ) → Bool
is_child upper at = is_within upper at && (length at == length upper + 1)

-- the path of the directory that a path stands in: the root counts as its own
abbrev pub parent_of : List (List ℕ) → List (List ℕ)
parent_of at = take (length at - 1) at

-- where a path leads to once what is at `from` and below it is at `to`
abbrev pub moved : List (List ℕ) → List (List ℕ) → List (List ℕ) → List (List ℕ)
moved from to at = if is_within from at then to ++ drop (length from) at else at
