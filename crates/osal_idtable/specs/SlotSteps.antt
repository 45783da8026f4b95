-- What each call does to the slots of a table, and what it answers.
use Rattle.std.specs.Prelude.{List, ℕ, ◌+◌, ◌-◌, Option, Some, None, Result, Ok, Err, nat_lt, if◌then◌else◌}
use Rattle.osal_base.specs.Identifier.{compose}
use Rattle.osal_idtable.specs.declared.place.Place.{Place}
use Rattle.osal_idtable.specs.declared.slot.Slot.TheVariants as slot
use Rattle.osal_idtable.specs.declared.table.ReserveFault.{ReserveFault}
use Rattle.osal_idtable.specs.declared.table.ReserveFault.TheVariants as reserve_fault
use Rattle.osal_idtable.specs.declared.table.IdFault.{IdFault}
use Rattle.osal_idtable.specs.declared.table.IdFault.TheVariants as id_fault
use Rattle.osal_idtable.specs.Table.{Active, Reserved, hold_limit}
use Rattle.osal_idtable.specs.Steps.{looked_up, unheld}
use Rattle.osal_idtable.specs.Slots.{SlotsState, active_entry, reserved_entry, value_at, slot_at, written, is_used, next_open}

module _ {T : Type 0} where
  -- what stands under an identifier, if it is active
  abbrev pub active_under : SlotsState T → ℕ → Option (Active T)
  active_under table id = value_at id (active_entry (slot_at table id))

  -- the name under an identifier, if it is reserved
  abbrev pub reserved_under : SlotsState T → ℕ → Option (Option (List ℕ))
  reserved_under table id = value_at id (reserved_entry (slot_at table id))

  -- an identifier with its name and object in its slot
  abbrev pub filled : SlotsState T → ℕ → Active T → SlotsState T
  filled table id active = written table id (slot.Active id active.name active.holds active.object)

  -- the identifier at the place is reserved under the name
  abbrev pub slot_issue : SlotsState T → Option (List ℕ) → Option Place → Result Reserved ReserveFault × SlotsState T
  slot_issue table name None = (Err reserve_fault.NoFreeIds, table)
  slot_issue table name (Some place) = (
    Ok (record { id = compose table.kind place.serial; name = name }),
    record (written table (compose table.kind place.serial) (slot.Reserved (compose table.kind place.serial) name)) {
      last = place.serial;
      wraps = place.wraps;
    },
  )

  -- an identifier is set aside for an object to come
  abbrev pub slot_reserve : SlotsState T → Option (List ℕ) → Result Reserved ReserveFault × SlotsState T
  slot_reserve table name =
      if is_used table name then (Err reserve_fault.NameTaken, table) else slot_issue table name (next_open table)

  -- a reserved identifier becomes active with its object and no holds, or its slot is free again
  abbrev pub slot_settle : SlotsState T → ℕ → Option (Option (List ℕ)) → Option T → SlotsState T
  slot_settle table id None value = table
  slot_settle table id (Some name) None = written table id slot.Free
  slot_settle table id (Some name) (Some object) =
      filled table id (record { name = name; holds = 0; object = object })

  -- what becomes of a reserved identifier
  abbrev pub slot_finalize : SlotsState T → ℕ → Option T → SlotsState T
  slot_finalize table id value = slot_settle table id (reserved_under table id) value

  -- the object that an identifier names
  abbrev pub slot_lookup : SlotsState T → ℕ → Result T IdFault
  slot_lookup table id = looked_up (active_under table id)

  -- why an object may not be taken out
  abbrev pub taking_fault : Option (Active T) → Option IdFault
  taking_fault None = Some id_fault.InvalidId
  taking_fault (Some active) = if nat_lt 0 active.holds then Some id_fault.ObjectInUse else None

  -- what a removal answers, and the slots without the identifier
  abbrev pub slot_take_out : SlotsState T → ℕ → Result T IdFault → Result T IdFault × SlotsState T
  slot_take_out table id (Err fault) = (Err fault, table)
  slot_take_out table id (Ok object) = (Ok object, written table id slot.Free)

  -- an object that nobody holds is taken out
  abbrev pub slot_remove : SlotsState T → ℕ → Result T IdFault × SlotsState T
  slot_remove table id = slot_take_out table id (unheld (active_under table id))

  -- another object in the place of the one that an identifier names
  abbrev pub slot_replaced : SlotsState T → ℕ → T → Option (Active T) → SlotsState T
  slot_replaced table id object None = table
  slot_replaced table id object (Some active) = filled table id (record active { object = object })

  -- the same, found by the identifier
  abbrev pub slot_put : SlotsState T → ℕ → T → SlotsState T
  slot_put table id object = slot_replaced table id object (active_under table id)

  -- an active identifier that nobody holds is reserved again
  abbrev pub slot_claimed : SlotsState T → ℕ → Option (Active T) → Result (Reserved × T) IdFault × SlotsState T
  slot_claimed table id None = (Err id_fault.InvalidId, table)
  slot_claimed table id (Some active) =
      if nat_lt 0 active.holds then (Err id_fault.ObjectInUse, table)
      else (Ok (record { id = id; name = active.name }, active.object), written table id (slot.Reserved id active.name))

  -- the same, found by the identifier
  abbrev pub slot_claim : SlotsState T → ℕ → Result (Reserved × T) IdFault × SlotsState T
  slot_claim table id = slot_claimed table id (active_under table id)

  -- one hold more, below the limit
  abbrev pub slot_held : SlotsState T → ℕ → Option (Active T) → Result (Unit {0}) IdFault × SlotsState T
  slot_held table id None = (Err id_fault.InvalidId, table)
  slot_held table id (Some active) =
      if nat_lt active.holds hold_limit
      then (Ok tt, filled table id (record active { holds = active.holds + 1 }))
      else (Err id_fault.TooMany, table)

  -- the same, found by the identifier
  abbrev pub slot_hold : SlotsState T → ℕ → Result (Unit {0}) IdFault × SlotsState T
  slot_hold table id = slot_held table id (active_under table id)

  -- one hold less, where there is one
  abbrev pub slot_released : SlotsState T → ℕ → Option (Active T) → Result (Unit {0}) IdFault × SlotsState T
  slot_released table id None = (Err id_fault.InvalidId, table)
  slot_released table id (Some active) =
      if nat_lt 0 active.holds
      then (Ok tt, filled table id (record active { holds = active.holds - 1 }))
      else (Err id_fault.NotHeld, table)

  -- the same, found by the identifier
  abbrev pub slot_release : SlotsState T → ℕ → Result (Unit {0}) IdFault × SlotsState T
  slot_release table id = slot_released table id (active_under table id)

  -- the slots with other holds of an active identifier
  abbrev pub reheld : SlotsState T → ℕ → ℕ → Option (Active T) → SlotsState T
  reheld table id holds None = table
  reheld table id holds (Some active) = filled table id (record active { holds = holds })
