-- What each call does to a table, and what it answers.
use Rattle.std.specs.Prelude.{List, ℕ, Bool, Option, Some, None, Result, Ok, Err, nat_lt, is_some, find, option_map, if◌then◌else◌}
use Rattle.std.specs.FinMap as map
use Rattle.osal_idtable.specs.declared.table.ReserveFault.{ReserveFault}
use Rattle.osal_idtable.specs.declared.table.ReserveFault.TheVariants as reserve_fault
use Rattle.osal_idtable.specs.declared.table.IdFault.{IdFault}
use Rattle.osal_idtable.specs.declared.table.IdFault.TheVariants as id_fault
use Rattle.osal_idtable.specs.Table.{Active, TableState, Reserved, active_at, is_named, is_name_taken}
use Rattle.osal_idtable.specs.declared.place.Place.{Place}
use Rattle.osal_idtable.specs.Next.{next_place, id_at_place}

-- the identifier that reserving would give, or the same fault
abbrev pub peeked : Result Reserved ReserveFault → Result ℕ ReserveFault
peeked (Ok reserved) = Ok reserved.id
peeked (Err fault) = Err fault

module _ {T : Type 0} where
  -- the identifier at the place is reserved under the name
  abbrev pub issue : TableState T → Option (List ℕ) → Option Place → Result Reserved ReserveFault × TableState T
  issue table name None = (Err reserve_fault.NoFreeIds, table)
  issue table name (Some place) = (
    Ok (record { id = id_at_place table place; name = name }),
    record table {
      reserved = map.insert table.reserved (id_at_place table place) name;
      last = place.serial;
      wraps = place.wraps;
    },
  )

  -- an identifier is set aside for an object to come
  abbrev pub reserve_step : TableState T → Option (List ℕ) → Result Reserved ReserveFault × TableState T
  reserve_step table name =
      if is_name_taken table name then (Err reserve_fault.NameTaken, table) else issue table name (next_place table)

  -- a reserved identifier becomes active with its object and no holds, or is free again
  abbrev pub settle : TableState T → ℕ → Option (Option (List ℕ)) → Option T → TableState T
  settle table id None value = table
  settle table id (Some name) None = record table { reserved = map.remove table.reserved id }
  settle table id (Some name) (Some object) = record table {
    reserved = map.remove table.reserved id;
    active = map.insert table.active id (record { name = name; holds = 0; object = object });
  }

  -- what becomes of a reserved identifier
  abbrev pub finalize_step : TableState T → ℕ → Option T → TableState T
  finalize_step table id value = settle table id (map.get table.reserved id) value

  -- whether an identifier is reserved
  abbrev pub is_reserved : TableState T → ℕ → Bool
  is_reserved table id = is_some (map.get table.reserved id)

  -- the object under an active identifier
  abbrev pub looked_up : Option (Active T) → Result T IdFault
  looked_up None = Err id_fault.InvalidId
  looked_up (Some active) = Ok active.object

  -- the object that an identifier names
  abbrev pub lookup : TableState T → ℕ → Result T IdFault
  lookup table id = looked_up (active_at table id)

  -- the object under an active identifier that nobody holds
  abbrev pub unheld : Option (Active T) → Result T IdFault
  unheld None = Err id_fault.InvalidId
  unheld (Some active) = if nat_lt 0 active.holds then Err id_fault.ObjectInUse else Ok active.object

  -- what a removal answers, and the table without the identifier
  abbrev pub take_out : TableState T → ℕ → Result T IdFault → Result T IdFault × TableState T
  take_out table id (Err fault) = (Err fault, table)
  take_out table id (Ok object) = (Ok object, record table { active = map.remove table.active id })

  -- an object that nobody holds is taken out, and its identifier goes stale
  abbrev pub remove_step : TableState T → ℕ → Result T IdFault × TableState T
  remove_step table id = take_out table id (unheld (active_at table id))

  -- the active identifier with the name
  abbrev pub find_id : TableState T → List ℕ → Option ℕ
  find_id table name = option_map (λ e. e.0) (find (λ e. is_named e.1.name name) (map.entries table.active))

  -- an active identifier that nobody holds is reserved again, and gives its object up
  abbrev pub claimed : TableState T → ℕ → Option (Active T) → Result (Reserved × T) IdFault × TableState T
  claimed table id None = (Err id_fault.InvalidId, table)
  claimed table id (Some active) =
      if nat_lt 0 active.holds then (Err id_fault.ObjectInUse, table)
      else (
        Ok (record { id = id; name = active.name }, active.object),
        record table {
          active = map.remove table.active id;
          reserved = map.insert table.reserved id active.name;
        },
      )

  -- the same, found by the identifier
  abbrev pub claim_step : TableState T → ℕ → Result (Reserved × T) IdFault × TableState T
  claim_step table id = claimed table id (active_at table id)

  -- what becomes of an identifier that may be reserved
  abbrev pub finalize_id_step : TableState T → ℕ → Option T → Result ℕ IdFault × TableState T
  finalize_id_step table id value =
      if is_reserved table id then (Ok id, finalize_step table id value) else (Err id_fault.InvalidId, table)
