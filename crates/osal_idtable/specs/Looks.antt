-- What a table tells of its active identifiers in order of their slots.
use Rattle.std.specs.Prelude.{◌<◌, ◌≤◌, ℕ, ◌+◌, ◌==◌, List, Option, Some, None, IsSome, Result, Ok, Err, if◌then◌else◌}
use Rattle.osal_base.specs.Identifier.{slot_of}
use Rattle.osal_idtable.specs.declared.table.IdFault.{IdFault}
use Rattle.osal_idtable.specs.declared.table.IdFault.TheVariants as id_fault
use Rattle.osal_idtable.specs.Table.{Active, TableState, active_at}

-- the first slot above the one of an identifier, or the first of all for the undefined one
abbrev pub slot_after : ℕ → ℕ → ℕ
slot_after id capacity = if id == 0 then 0 else slot_of id capacity + 1

module _ {T : Type 0} where
  -- the name of an active identifier
  abbrev pub name_under : Option (Active T) → Result (Option (List ℕ)) IdFault
  name_under None = Err id_fault.InvalidId
  name_under (Some active) = Ok active.name

  -- the active identifier in the least slot from this one on
  abbrev pub IsNextFrom : TableState T → ℕ → Option ℕ → Type 0
  IsNextFrom table start None =
      (id : ℕ) → IsSome (active_at table id) → slot_of id table.capacity < start
  IsNextFrom table start (Some next) =
      IsSome (active_at table next)
      × (start ≤ slot_of next table.capacity)
      × ((id : ℕ) → IsSome (active_at table id) → start ≤ slot_of id table.capacity → slot_of next table.capacity ≤ slot_of id table.capacity)
