-- What each call does to the slots, and what it answers.
use Rattle.std.specs.Prelude.{List, ℕ, not, Option, Some, None, Result, Ok, Err, is_some, slice_index_or, slice_set, if◌then◌else◌}
use Rattle.std.specs.List.{list_any}
use Rattle.osal_tree.specs.declared.kind.Kind.{Kind}
use Rattle.osal_tree.specs.declared.kind.TreeFault.{TreeFault}
use Rattle.osal_tree.specs.declared.kind.TreeFault.TheVariants as fault
use Rattle.osal_tree.specs.declared.node.Place.{Place}
use Rattle.osal_tree.specs.declared.node.Place.TheVariants as place
use Rattle.osal_tree.specs.declared.node.Sort.{Sort}
use Rattle.osal_tree.specs.declared.node.Node.{Node}
use Rattle.osal_tree.specs.Nodes.{is_directory}
use Rattle.osal_tree.specs.Slots.{child, reach, kind_at, is_in, free_slot}

-- an answer without its number
abbrev pub done : Result ℕ TreeFault → Result (Unit {0}) TreeFault
done (Ok slot) = Ok tt
done (Err why) = Err why

-- the place of the directory that a path leads to
abbrev pub directory : List (Option Node) → List (List ℕ) → Option Place
directory slots at = if is_directory (kind_at slots (reach slots at)) then reach slots at else None

-- a new node is put into a free slot
abbrev pub settled : List (Option Node) → Node → Option ℕ → Result ℕ TreeFault × List (Option Node)
settled slots node None = (Err fault.NoSpace, slots)
settled slots node (Some slot) = (Ok slot, slice_set slots slot (Some node))

-- a new node is put into its directory
abbrev pub made_in : List (Option Node) → List ℕ → Sort → Option Place → Result ℕ TreeFault × List (Option Node)
made_in slots name sort None = (Err fault.NotFound, slots)
made_in slots name sort (Some home) =
    if is_some (child slots home name) then (Err fault.Exists, slots)
    else settled slots (record { home = home; name = name; sort = sort }) (free_slot slots)

-- a new node is made in the directory that a path leads to
abbrev pub slot_make : List (Option Node) → List (List ℕ) → List ℕ → Sort → Result ℕ TreeFault × List (Option Node)
slot_make slots above name sort = made_in slots name sort (directory slots above)

-- a slot is freed where no fault speaks against it
abbrev pub freed : List (Option Node) → ℕ → Option TreeFault → Result ℕ TreeFault × List (Option Node)
freed slots slot None = (Ok slot, slice_set slots slot None)
freed slots slot (Some why) = (Err why, slots)

-- why what stands at a place is no file
abbrev pub file_fault : Option Kind → Option TreeFault
file_fault None = Some fault.NotFound
file_fault (Some there) = if is_directory (Some there) then Some fault.WrongKind else None

-- why what stands in a slot is no directory, or no empty one
abbrev pub clearing_fault : List (Option Node) → ℕ → Option TreeFault
clearing_fault slots slot =
    if not (is_directory (kind_at slots (Some (place.Slot slot)))) then Some fault.WrongKind
    else (if list_any (is_in (place.Slot slot)) slots then Some fault.NotEmpty
    else None)

-- the file at a place is removed
abbrev pub file_removed : List (Option Node) → Option Place → Result ℕ TreeFault × List (Option Node)
file_removed slots None = (Err fault.NotFound, slots)
file_removed slots (Some place.Root) = (Err fault.WrongKind, slots)
file_removed slots (Some (place.Slot slot)) = freed slots slot (file_fault (kind_at slots (Some (place.Slot slot))))

-- the directory at a place is removed
abbrev pub directory_removed : List (Option Node) → Option Place → Result ℕ TreeFault × List (Option Node)
directory_removed slots None = (Err fault.NotFound, slots)
directory_removed slots (Some place.Root) = (Err fault.WrongKind, slots)
directory_removed slots (Some (place.Slot slot)) = freed slots slot (clearing_fault slots slot)

-- a slot's node with another directory and name
abbrev pub rehomed : Place → List ℕ → Option Node → Option Node
rehomed home name None = None
rehomed home name (Some node) = Some (record node { home = home; name = name })

-- the node of the first place is put into the other one, under a name
abbrev pub slot_rename : List (Option Node) → Option Place → Option Place → List ℕ → List (Option Node)
slot_rename slots None home name = slots
slot_rename slots (Some place.Root) home name = slots
slot_rename slots (Some (place.Slot slot)) None name = slots
slot_rename slots (Some (place.Slot slot)) (Some home) name =
    slice_set slots slot (rehomed home name (slice_index_or slots slot None))
