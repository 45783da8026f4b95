-- The slots behind a tree, in order, and where paths lead in them.
use Rattle.std.specs.Prelude.{◌==◌, ◌&&◌, List, [], ◌∷◌, ℕ, Bool, true, false, Option, Some, None, is_none, slice_index_or}
use Rattle.std.specs.List.{position_from}
use Rattle.std.specs.Str.{bytes_eq}
use Rattle.osal_tree.specs.declared.kind.Kind.{Kind}
use Rattle.osal_tree.specs.declared.kind.Kind.TheVariants as kind
use Rattle.osal_tree.specs.declared.node.Place.{Place}
use Rattle.osal_tree.specs.declared.node.Place.TheVariants as place
use Rattle.osal_tree.specs.declared.node.Sort.{Sort}
use Rattle.osal_tree.specs.declared.node.Sort.TheVariants as sort
use Rattle.osal_tree.specs.declared.node.Node.{Node}

-- whether two places are the same
abbrev pub same_place : Place → Place → Bool
same_place place.Root place.Root = true
same_place place.Root (place.Slot other) = false
same_place (place.Slot slot) place.Root = false
same_place (place.Slot slot) (place.Slot other) = slot == other

-- whether a slot has the node with that name in that directory
abbrev pub is_at : Place → List ℕ → Option Node → Bool
is_at home name None = false
is_at home name (Some node) = same_place node.home home && bytes_eq node.name name

-- whether a slot has a node in that directory
abbrev pub is_in : Place → Option Node → Bool
is_in home None = false
is_in home (Some node) = same_place node.home home

-- the slot of the node with that name in that directory
abbrev pub child : List (Option Node) → Place → List ℕ → Option ℕ
child slots home name = position_from (is_at home name) 0 slots

-- the place of a slot, if there is one
abbrev pub slot_place : Option ℕ → Option Place
slot_place None = None
slot_place (Some slot) = Some (place.Slot slot)

-- where a name leads from a place
abbrev pub step : List (Option Node) → Option Place → List ℕ → Option Place
step slots None name = None
step slots (Some home) name = slot_place (child slots home name)

-- where a path leads from a place
abbrev pub walk : List (Option Node) → Option Place → List (List ℕ) → Option Place
walk slots home [] = home
walk slots home (name ∷ rest) = walk slots (step slots home name) rest

-- where a path leads from the root
abbrev pub reach : List (Option Node) → List (List ℕ) → Option Place
reach slots at = walk slots (Some place.Root) at

-- what a node of a sort in a slot is: its slot is a file's number
abbrev pub kind_of : ℕ → Sort → Kind
kind_of slot sort.Directory = kind.Directory
kind_of slot sort.File = kind.File slot

-- what stands in a slot
abbrev pub kind_in : ℕ → Option Node → Option Kind
kind_in slot None = None
kind_in slot (Some node) = Some (kind_of slot node.sort)

-- what stands at a place
abbrev pub kind_at : List (Option Node) → Option Place → Option Kind
kind_at slots None = None
kind_at slots (Some place.Root) = Some kind.Directory
kind_at slots (Some (place.Slot slot)) = kind_in slot (slice_index_or slots slot None)

-- what stands at a path
abbrev pub look : List (Option Node) → List (List ℕ) → Option Kind
look slots at = kind_at slots (reach slots at)

-- the first slot that is free
abbrev pub free_slot : List (Option Node) → Option ℕ
free_slot slots = position_from is_none 0 slots
