-- How the holds of an object change.
use Rattle.std.specs.Prelude.{ℕ, Bool, false, ◌+◌, ◌-◌, Option, Some, None, Result, Ok, Err, nat_lt, if◌then◌else◌}
use Rattle.osal_idtable.specs.declared.table.IdFault.{IdFault}
use Rattle.osal_idtable.specs.declared.table.IdFault.TheVariants as id_fault
use Rattle.osal_idtable.specs.Table.{Active, TableState, active_at, with_active, hold_limit}

module _ {T : Type 0} where
  -- the holds of an active identifier
  abbrev pub holds_of : Option (Active T) → Result ℕ IdFault
  holds_of None = Err id_fault.InvalidId
  holds_of (Some active) = Ok active.holds

  -- whether an active identifier has holds
  abbrev pub is_held : Option (Active T) → Bool
  is_held None = false
  is_held (Some active) = nat_lt 0 active.holds

  -- one hold more, below the limit
  abbrev pub held : TableState T → ℕ → Option (Active T) → Result (Unit {0}) IdFault × TableState T
  held table id None = (Err id_fault.InvalidId, table)
  held table id (Some active) =
      if nat_lt active.holds hold_limit
      then (Ok tt, with_active table id (record active { holds = active.holds + 1 }))
      else (Err id_fault.TooMany, table)

  -- somebody holds the object that an identifier names
  abbrev pub hold_step : TableState T → ℕ → Result (Unit {0}) IdFault × TableState T
  hold_step table id = held table id (active_at table id)

  -- one hold less, where there is one
  abbrev pub released : TableState T → ℕ → Option (Active T) → Result (Unit {0}) IdFault × TableState T
  released table id None = (Err id_fault.InvalidId, table)
  released table id (Some active) =
      if nat_lt 0 active.holds
      then (Ok tt, with_active table id (record active { holds = active.holds - 1 }))
      else (Err id_fault.NotHeld, table)

  -- somebody no longer holds the object that an identifier names
  abbrev pub release_step : TableState T → ℕ → Result (Unit {0}) IdFault × TableState T
  release_step table id = released table id (active_at table id)
