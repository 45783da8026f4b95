-- How the names in a directory are gathered from the slots.
use Rattle.std.specs.Prelude.{List, [], ◌∷◌, ℕ, Option, Some, None, if◌then◌else◌}
use Rattle.std.specs.List.{insert}
use Rattle.std.specs.declared.cmp.Ordering.{Ordering}
use Rattle.std.specs.declared.cmp.Ordering.TheVariants as ordering
use Rattle.std.specs.Ordering.{nat_cmp}
use Rattle.std.specs.Cmp.Lexicographic.{slice_cmp}
use Rattle.osal_tree.specs.declared.node.Place.{Place}
use Rattle.osal_tree.specs.declared.node.Node.{Node}
use Rattle.osal_tree.specs.Slots.{same_place}

-- one of three lists, by how a name compares
abbrev pub by_ordering : Ordering → List (List ℕ) → List (List ℕ) → List (List ℕ) → List (List ℕ)
by_ordering ordering.Less below same above = below
by_ordering ordering.Equal below same above = same
by_ordering ordering.Greater below same above = above

-- names in the order of their bytes with one more, where it is not there
abbrev pub put : List ℕ → List (List ℕ) → List (List ℕ)
put name [] = name ∷ []
put name (other ∷ names) =
    by_ordering (slice_cmp nat_cmp name other) (name ∷ other ∷ names) (other ∷ names) (other ∷ put name names)

-- names with one more at a place, if there is one
abbrev pub inserted : List ℕ → List (List ℕ) → Option ℕ → List (List ℕ)
inserted name names None = names
inserted name names (Some at) = insert names at name

-- the names with that of a slot's node, where it lies in the directory
abbrev pub added : Place → List (List ℕ) → Option Node → List (List ℕ)
added home names None = names
added home names (Some node) = if same_place node.home home then put node.name names else names

-- the names with those of all nodes in the directory
abbrev pub gathered : Place → List (List ℕ) → List (Option Node) → List (List ℕ)
gathered home names [] = names
gathered home names (content ∷ slots) = gathered home (added home names content) slots

-- the names in the directory that a path leads to
abbrev pub names_at : List (Option Node) → Option Place → List (List ℕ)
names_at slots None = []
names_at slots (Some home) = gathered home [] slots
