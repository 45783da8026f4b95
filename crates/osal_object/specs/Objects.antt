-- A table of objects beside the waits that stand on them, and the steps that every kind of object shares.
use Rattle.std.specs.Prelude.{◌+◌, ◌-◌, List, ℕ, Option, Some, None, Result, Ok, Err, nat_lt, if◌then◌else◌}
use Rattle.osal_base.specs.declared.status.Status.TheVariants as status
use Rattle.osal_base.specs.declared.name.NameFault.{NameFault}
use Rattle.osal_base.specs.Name.{name_fault}
use Rattle.osal_base.specs.Reply.{Replied, refusal, success, gives, gives_bytes}
use Rattle.osal_idtable.specs.declared.table.ReserveFault.{ReserveFault}
use Rattle.osal_idtable.specs.Table.{Active, TableState, Reserved, opening, active_at, with_active, with_object}
use Rattle.osal_idtable.specs.Steps.{reserve_step, finalize_step, remove_step, find_id}
use Rattle.osal_idtable.specs.Faults.{name_status, reserve_status, answered, found_id, name_bytes}
use Rattle.osal_object.specs.Waits.{WaitsState, no_waits, waits_on}

-- the objects of one type, and the open waits of their part
pub record ObjectsState (T W : Type 0) : Type 0 where
  pub table : TableState T
  pub waits : WaitsState W

-- the holds of an object, its open waits counted, at which a caller's hold is refused
abbrev pub caller_hold_limit : ℕ
caller_hold_limit = 1000000

module _ {T : Type 0} where
  -- a find under a name that has this fault, or none
  abbrev pub found_by : TableState T → List ℕ → Option NameFault → Replied
  found_by table name (Some fault) = refusal (name_status fault)
  found_by table name None = found_id (find_id table name)

  -- what an info tells of an object that may be there: a number of it, with its name
  abbrev pub info_reply : (T → ℕ) → Option (Active T) → Replied
  info_reply number None = refusal status.ErrInvalidId
  info_reply number (Some active) = gives_bytes (number active.object) (name_bytes active.name)

module _ {T W : Type 0} where
  -- no objects and no waits
  abbrev pub no_objects : ℕ → ℕ → ℕ → ObjectsState T W
  no_objects kind capacity tasks = record { table = opening kind capacity; waits = no_waits tasks }

  -- the same with another table
  abbrev pub with_table : ObjectsState T W → TableState T → ObjectsState T W
  with_table objects table = record objects { table = table }

  -- another object in the place of the one that an identifier names
  abbrev pub with_value : ObjectsState T W → ℕ → T → ObjectsState T W
  with_value objects id object = with_table objects (with_object objects.table id object)

  -- the object stands under the identifier that was reserved for it
  abbrev pub created : ObjectsState T W → T → Result Reserved ReserveFault → TableState T → Replied × ObjectsState T W
  created objects object (Err fault) table = (refusal (reserve_status fault), objects)
  created objects object (Ok reserved) table =
      (gives reserved.id, with_table objects (finalize_step table reserved.id (Some object)))

  -- a create under a valid name, or under none: an identifier is reserved and made active in one step
  abbrev pub create_step : ObjectsState T W → Option (List ℕ) → T → Replied × ObjectsState T W
  create_step objects name object =
      created objects object (reserve_step objects.table name).0 (reserve_step objects.table name).1

  -- a delete: the object is removed, unless it is not active or somebody holds it
  abbrev pub delete_step : ObjectsState T W → ℕ → Replied × ObjectsState T W
  delete_step objects id =
      (answered (remove_step objects.table id).0, with_table objects (remove_step objects.table id).1)

  -- a find: the identifier of the active object of that name
  abbrev pub find_reply : ObjectsState T W → List ℕ → Replied
  find_reply objects name = found_by objects.table name (name_fault name)

  -- one hold more, below the limit of callers
  abbrev pub held_by_caller : ObjectsState T W → ℕ → Option (Active T) → Replied × ObjectsState T W
  held_by_caller objects id None = (refusal status.ErrInvalidId, objects)
  held_by_caller objects id (Some active) =
      if nat_lt active.holds caller_hold_limit
      then (success, with_table objects (with_active objects.table id (record active { holds = active.holds + 1 })))
      else (refusal status.Error, objects)

  -- a hold: somebody holds the object from now on
  abbrev pub hold_call_step : ObjectsState T W → ℕ → Replied × ObjectsState T W
  hold_call_step objects id = held_by_caller objects id (active_at objects.table id)

  -- one hold less, where there are more than the waits that stand on the object
  abbrev pub released_by_caller : ObjectsState T W → ℕ → Option (Active T) → Replied × ObjectsState T W
  released_by_caller objects id None = (refusal status.ErrInvalidId, objects)
  released_by_caller objects id (Some active) =
      if nat_lt (waits_on objects.waits id) active.holds
      then (success, with_table objects (with_active objects.table id (record active { holds = active.holds - 1 })))
      else (refusal status.ErrIncorrectObjState, objects)

  -- a release: somebody gives a hold of the object back
  abbrev pub release_call_step : ObjectsState T W → ℕ → Replied × ObjectsState T W
  release_call_step objects id = released_by_caller objects id (active_at objects.table id)
