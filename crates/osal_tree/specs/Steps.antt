-- What each call does to the nodes, and what it answers.
use Rattle.std.specs.Prelude.{◌≡◌, ◌||◌, map as list_map, ◌==◌, List, ℕ, not, length, Option, Some, None, Result, Ok, Err, nat_le, is_some, is_none, if◌then◌else◌}
use Rattle.std.specs.FinMap as map
use Rattle.osal_tree.specs.declared.kind.Kind.{Kind}
use Rattle.osal_tree.specs.declared.kind.Kind.TheVariants as kind
use Rattle.osal_tree.specs.declared.kind.TreeFault.{TreeFault}
use Rattle.osal_tree.specs.declared.kind.TreeFault.TheVariants as fault
use Rattle.osal_tree.specs.Paths.{is_below, parent_of, moved}
use Rattle.osal_tree.specs.Nodes.{Nodes, node_limit, node_at, is_directory, has_child, IsFresh}

-- why nothing new may stand at a path
abbrev pub making_fault : Nodes → List (List ℕ) → Option TreeFault
making_fault nodes at =
    if is_some (node_at nodes at) then Some fault.Exists
    else (if not (is_directory (node_at nodes (parent_of at))) then Some fault.NotFound
    else (if nat_le node_limit (map.len nodes) then Some fault.NoSpace
    else None))

-- a file stands at a path where nothing was in the way, under a number that no other file has
pub record IsCreated (nodes : Nodes) (at : List (List ℕ)) (number : ℕ) (after : Nodes) : Type 0 where
  pub allowed : making_fault nodes at ≡ None
  pub fresh : IsFresh nodes number
  pub there : after ≡ map.insert nodes at (kind.File number)

-- a directory is made where nothing is in the way
abbrev pub made : Nodes → List (List ℕ) → Option TreeFault → Result (Unit {0}) TreeFault × Nodes
made nodes at None = (Ok tt, map.insert nodes at kind.Directory)
made nodes at (Some why) = (Err why, nodes)

-- a directory is made, or the call says why not
abbrev pub mkdir_step : Nodes → List (List ℕ) → Result (Unit {0}) TreeFault × Nodes
mkdir_step nodes at = made nodes at (making_fault nodes at)

-- a file is taken away
abbrev pub removed : Nodes → List (List ℕ) → Option Kind → Result ℕ TreeFault × Nodes
removed nodes at None = (Err fault.NotFound, nodes)
removed nodes at (Some kind.Directory) = (Err fault.WrongKind, nodes)
removed nodes at (Some (kind.File number)) = (Ok number, map.remove nodes at)

-- the file at a path is taken away, or the call says why not
abbrev pub remove_step : Nodes → List (List ℕ) → Result ℕ TreeFault × Nodes
remove_step nodes at = removed nodes at (node_at nodes at)

-- why a directory may not be taken away
abbrev pub rmdir_fault : Nodes → List (List ℕ) → Option Kind → Option TreeFault
rmdir_fault nodes at None = Some fault.NotFound
rmdir_fault nodes at (Some (kind.File number)) = Some fault.WrongKind
rmdir_fault nodes at (Some kind.Directory) =
    if length at == 0 then Some fault.WrongKind
    else (if has_child nodes at then Some fault.NotEmpty
    else None)

-- a directory is taken away where nothing is in the way
abbrev pub cleared : Nodes → List (List ℕ) → Option TreeFault → Result (Unit {0}) TreeFault × Nodes
cleared nodes at None = (Ok tt, map.remove nodes at)
cleared nodes at (Some why) = (Err why, nodes)

-- the empty directory at a path is taken away, or the call says why not
abbrev pub rmdir_step : Nodes → List (List ℕ) → Result (Unit {0}) TreeFault × Nodes
rmdir_step nodes at = cleared nodes at (rmdir_fault nodes at (node_at nodes at))

-- why what is at `from` may not be moved to `to`
abbrev pub rename_fault : Nodes → List (List ℕ) → List (List ℕ) → Option TreeFault
rename_fault nodes from to =
    if is_none (node_at nodes from) then Some fault.NotFound
    else (if not (is_directory (node_at nodes (parent_of to))) then Some fault.NotFound
    else (if (length from == 0) || ((length to == 0) || is_below from to) then Some fault.WrongKind
    else (if is_some (node_at nodes to) then Some fault.Exists
    else None)))

-- what is at `from`, and all below it, stands at `to`
abbrev pub renamed : Nodes → List (List ℕ) → List (List ℕ) → Nodes
renamed nodes from to = map.from_entries (list_map (λ e. (moved from to e.0, e.1)) (map.entries nodes))

-- a node is moved with all below it where nothing is in the way
abbrev pub shifted : Nodes → List (List ℕ) → List (List ℕ) → Option TreeFault → Result (Unit {0}) TreeFault × Nodes
shifted nodes from to None = (Ok tt, renamed nodes from to)
shifted nodes from to (Some why) = (Err why, nodes)

-- a node is moved with all below it, or the call says why not
abbrev pub rename_step : Nodes → List (List ℕ) → List (List ℕ) → Result (Unit {0}) TreeFault × Nodes
rename_step nodes from to = shifted nodes from to (rename_fault nodes from to)
