-- What the copies do to a volume, and what they answer.
use Rattle.std.specs.Prelude.{◌||◌, ◌==◌, List, ℕ, Bool, false, not, Option, Some, None, Result, Err, nat_lt, if◌then◌else◌}
use Rattle.std.specs.Ordering.{eq_by_cmp}
use Rattle.std.specs.FinMap as map
use Rattle.osal_tree.specs.declared.kind.Kind.{Kind}
use Rattle.osal_tree.specs.declared.kind.Kind.TheVariants as kind
use Rattle.osal_tree.specs.Paths.{path_cmp, parent_of}
use Rattle.osal_tree.specs.Nodes.{node_limit}
use Rattle.osal_volume.specs.declared.fault.VolFault.{VolFault}
use Rattle.osal_volume.specs.declared.fault.VolFault.TheVariants as fault
use Rattle.osal_volume.specs.Volume.{Content, VolumeState, content_at, used_blocks, is_directory, with_node}
use Rattle.osal_volume.specs.Steps.{done_or}

-- there are more blocks taken than there are, or more than 256 nodes
abbrev pub is_overfull : VolumeState → Bool
is_overfull state = nat_lt state.total (used_blocks state) || nat_lt node_limit (map.len state.nodes)

-- why a copy of what stands somewhere, maybe at the same path, may not come to stand at a path
abbrev pub placing_fault : VolumeState → List (List ℕ) → Bool → Option Content → Option VolFault
placing_fault state to same None = Some fault.NotFound
placing_fault state to same (Some source) =
    if not (is_directory (content_at state (parent_of to))) then Some fault.NotFound
    else (if is_directory (Some source) || (is_directory (content_at state to) || same) then Some fault.WrongKind
    else (if is_overfull (with_node state to source) then Some fault.NoSpace
    else None))

-- a copy comes to stand at a path, in place of a file that stood there, where nothing is in the way
abbrev pub placed : VolumeState → List (List ℕ) → Bool → Option Content → Result (Unit {0}) VolFault × VolumeState
placed state to same None = (Err fault.NotFound, state)
placed state to same (Some source) = done_or state (with_node state to source) (placing_fault state to same (Some source))

-- a file is copied
abbrev pub copy_step : VolumeState → List (List ℕ) → List (List ℕ) → Result (Unit {0}) VolFault × VolumeState
copy_step state from to = placed state to (eq_by_cmp path_cmp from to) (content_at state from)

-- a file of another volume is copied
abbrev pub copy_from_step : VolumeState → VolumeState → List (List ℕ) → List (List ℕ) → Result (Unit {0}) VolFault × VolumeState
copy_from_step state other from to = placed state to false (content_at other from)

-- whether both are files, with one number
abbrev pub is_one_file : Option Kind → Option Kind → Bool
is_one_file (Some (kind.File number)) (Some (kind.File other)) = number == other
is_one_file _ _ = false
