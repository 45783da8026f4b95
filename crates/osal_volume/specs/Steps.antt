-- What each call does to a volume, and what it answers.
use Rattle.std.specs.Prelude.{◌+◌, ◌-◌, ◌*◌, ◌==◌, min, List, [], ℕ, not, length, take, drop, Option, Some, None, Result, Ok, Err, nat_le, is_some, if◌then◌else◌}
use Rattle.std.specs.FinMap as map
use Rattle.osal_blocks.specs.Blocks.{blocks_of, overwritten}
use Rattle.osal_tree.specs.Paths.{parent_of}
use Rattle.osal_tree.specs.Nodes.{node_limit}
use Rattle.osal_volume.specs.declared.fault.VolFault.{VolFault}
use Rattle.osal_volume.specs.declared.fault.VolFault.TheVariants as fault
use Rattle.osal_volume.specs.Volume.{Content, Dir, Bytes, VolumeState, content_at, free_blocks, is_directory, has_child, with_node, without_node}

-- why there is no file to act on
abbrev pub file_fault : Option Content → Option VolFault
file_fault None = Some fault.NotFound
file_fault (Some Dir) = Some fault.WrongKind
file_fault (Some (Bytes bytes)) = None

-- what a call leaves that is refused, or changes the volume
abbrev pub done_or : VolumeState → VolumeState → Option VolFault → Result (Unit {0}) VolFault × VolumeState
done_or state after None = (Ok tt, after)
done_or state after (Some why) = (Err why, state)

-- why nothing new may stand at a path
abbrev pub making_fault : VolumeState → List (List ℕ) → Option VolFault
making_fault state at =
    if is_some (content_at state at) then Some fault.Exists
    else (if not (is_directory (content_at state (parent_of at))) then Some fault.NotFound
    else (if nat_le node_limit (map.len state.nodes) then Some fault.NoSpace
    else None))

-- a file without bytes is made: it takes a node, and no block
abbrev pub create_step : VolumeState → List (List ℕ) → Result (Unit {0}) VolFault × VolumeState
create_step state at = done_or state (with_node state at (Bytes [])) (making_fault state at)

-- the fault, or else that there is no free block
abbrev pub or_full : VolumeState → Option VolFault → Option VolFault
or_full state (Some why) = Some why
or_full state None = if free_blocks state == 0 then Some fault.NoSpace else None

-- a directory is made: it takes a node and a block
abbrev pub mkdir_step : VolumeState → List (List ℕ) → Result (Unit {0}) VolFault × VolumeState
mkdir_step state at = done_or state (with_node state at Dir) (or_full state (making_fault state at))

-- a file loses its bytes
abbrev pub truncate_step : VolumeState → List (List ℕ) → Result (Unit {0}) VolFault × VolumeState
truncate_step state at = done_or state (with_node state at (Bytes [])) (file_fault (content_at state at))

-- a file is removed
abbrev pub remove_step : VolumeState → List (List ℕ) → Result (Unit {0}) VolFault × VolumeState
remove_step state at = done_or state (without_node state at) (file_fault (content_at state at))

-- why a directory may not be removed
abbrev pub rmdir_fault : VolumeState → List (List ℕ) → Option Content → Option VolFault
rmdir_fault state at None = Some fault.NotFound
rmdir_fault state at (Some (Bytes bytes)) = Some fault.WrongKind
rmdir_fault state at (Some Dir) =
    if length at == 0 then Some fault.WrongKind
    else (if has_child state at then Some fault.NotEmpty
    else None)

-- an empty directory is removed
abbrev pub rmdir_step : VolumeState → List (List ℕ) → Result (Unit {0}) VolFault × VolumeState
rmdir_step state at = done_or state (without_node state at) (rmdir_fault state at (content_at state at))

-- the bytes of a file from a place on, at most so many
abbrev pub read_step : Option Content → ℕ → ℕ → Result (List ℕ) VolFault
read_step None place n = Err fault.NotFound
read_step (Some Dir) place n = Err fault.WrongKind
read_step (Some (Bytes bytes)) place n = Ok (take n (drop place bytes))

-- how many bytes of so many fit into a file with these at a place: its own blocks and the free ones hold the most
abbrev pub fitting : VolumeState → List ℕ → ℕ → ℕ → ℕ
fitting state bytes place count = min count ((free_blocks state + blocks_of bytes) * 512 - place)

-- so many bytes of a payload are written, if there are any
abbrev pub put : VolumeState → List (List ℕ) → List ℕ → ℕ → List ℕ → ℕ → Result ℕ VolFault × VolumeState
put state at bytes place payload count =
    if count == 0 then (Err fault.NoSpace, state)
    else (Ok count, with_node state at (Bytes (overwritten bytes place (take count payload))))

-- a payload is written to what stands at a path
abbrev pub written : VolumeState → List (List ℕ) → ℕ → List ℕ → Option Content → Result ℕ VolFault × VolumeState
written state at place payload None = (Err fault.NotFound, state)
written state at place payload (Some Dir) = (Err fault.WrongKind, state)
written state at place payload (Some (Bytes bytes)) =
    put state at bytes place payload (fitting state bytes place (length payload))

-- the most bytes of a payload that fit are written over those of a file, with zero bytes up to the place
abbrev pub write_step : VolumeState → List (List ℕ) → ℕ → List ℕ → Result ℕ VolFault × VolumeState
write_step state at place payload = written state at place payload (content_at state at)
