-- Which tables are well formed.
use Rattle.std.specs.Prelude.{◌≡◌, ◌≤◌, List, ℕ, Option, Some, None}
use Rattle.std.specs.FinMap as map
use Rattle.osal_base.specs.Identifier.{type_of, slot_of}
use Rattle.osal_base.specs.Limits.{IsCapacity}
use Rattle.osal_idtable.specs.Table.{Active, TableState, active_at, hold_limit, opening}
use Rattle.osal_idtable.specs.Laws.{Call, called}

module _ {T : Type 0} where
  -- the name of an identifier that is active, or else reserved
  abbrev pub known_as : Option (Active T) → Option (Option (List ℕ)) → Option (Option (List ℕ))
  known_as (Some active) reserved = Some active.name
  known_as None reserved = reserved

  -- the name of an identifier of the table
  abbrev pub name_at : TableState T → ℕ → Option (Option (List ℕ))
  name_at table id = known_as (active_at table id) (map.get table.reserved id)

  -- each identifier has the table's type, a slot and a name of its own, and not too many holds
  pub record IsWellFormed (table : TableState T) : Type 0 where
    pub room : IsCapacity table.capacity
    pub typed : (id : ℕ) (name : Option (List ℕ)) → name_at table id ≡ Some name → type_of id ≡ table.kind
    pub one_slot : (id other : ℕ) (name another : Option (List ℕ)) → name_at table id ≡ Some name → name_at table other ≡ Some another → slot_of id table.capacity ≡ slot_of other table.capacity → id ≡ other
    pub one_name : (id other : ℕ) (name : List ℕ) → name_at table id ≡ Some (Some name) → name_at table other ≡ Some (Some name) → id ≡ other
    pub apart : (id : ℕ) (active : Active T) → active_at table id ≡ Some active → map.get table.reserved id ≡ None
    pub few_holds : (id : ℕ) (active : Active T) → active_at table id ≡ Some active → active.holds ≤ hold_limit

-- a table is well formed at its opening, and after each call on a table that is
abbrev pub StaysWellFormed : Type 0 → Type 0
StaysWellFormed T =
    ((kind capacity : ℕ) → IsCapacity capacity → IsWellFormed (opening {T = T} kind capacity))
    × ((table : TableState T) (call : Call T) → IsWellFormed table → IsWellFormed (called table call))
