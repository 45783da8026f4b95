-- What a move does to a volume, and what it answers.
use Rattle.std.specs.Prelude.{◌||◌, ◌==◌, map as list_map, List, ℕ, not, length, Option, Some, None, Result, is_some, is_none, if◌then◌else◌}
use Rattle.std.specs.FinMap as map
use Rattle.osal_tree.specs.Paths.{is_below, parent_of, moved}
use Rattle.osal_volume.specs.declared.fault.VolFault.{VolFault}
use Rattle.osal_volume.specs.declared.fault.VolFault.TheVariants as fault
use Rattle.osal_volume.specs.Volume.{VolumeState, content_at, is_directory}
use Rattle.osal_volume.specs.Steps.{done_or}

-- why what is at `from` may not be moved to `to`
abbrev pub rename_fault : VolumeState → List (List ℕ) → List (List ℕ) → Option VolFault
rename_fault state from to =
    if is_none (content_at state from) then Some fault.NotFound
    else (if not (is_directory (content_at state (parent_of to))) then Some fault.NotFound
    else (if (length from == 0) || ((length to == 0) || is_below from to) then Some fault.WrongKind
    else (if is_some (content_at state to) then Some fault.Exists
    else None)))

-- the volume in which what is at `from`, and all below it, stands at `to`
abbrev pub renamed : VolumeState → List (List ℕ) → List (List ℕ) → VolumeState
renamed state from to =
    record state { nodes = map.from_entries (list_map (λ e. (moved from to e.0, e.1)) (map.entries state.nodes)) }

-- a node is moved with all below it, or the call says why not
abbrev pub rename_step : VolumeState → List (List ℕ) → List (List ℕ) → Result (Unit {0}) VolFault × VolumeState
rename_step state from to = done_or state (renamed state from to) (rename_fault state from to)
