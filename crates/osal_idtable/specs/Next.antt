-- Which identifier comes next: the first in the course of serials whose slot is free.
use Rattle.std.specs.Prelude.{ℕ, zero, suc, ◌+◌, ◌-◌, ◌%◌, ◌^◌, min, List, [], ◌∷◌, Option, Bool, not, nat_lt, find, if◌then◌else◌}
use Rattle.osal_base.specs.Identifier.{compose, slot_of}
use Rattle.osal_idtable.specs.declared.place.Place.{Place}
use Rattle.osal_idtable.specs.Table.{TableState, is_slot_taken}

-- the place after one: serials end below 65,535, and begin again at the slot that comes then
abbrev pub after : ℕ → Place → Place
after capacity place =
    if nat_lt (place.serial + 1) 65535
    then record { serial = place.serial + 1; wraps = place.wraps }
    else record { serial = (place.serial + 1) % capacity; wraps = min (place.wraps + 1) (2 ^ 64 - 1) }

-- so many places after one, in order
abbrev pub candidates : ℕ → ℕ → Place → List Place
candidates capacity zero place = []
candidates capacity (suc n) place =
    after capacity place ∷ candidates capacity n (after capacity place)

module _ {T : Type 0} where
  -- where the table's course stands
  abbrev pub place_of : TableState T → Place
  place_of table = record { serial = table.last; wraps = table.wraps }

  -- the identifier that the table would issue at a place
  abbrev pub id_at_place : TableState T → Place → ℕ
  id_at_place table place = compose table.kind place.serial

  -- whether a place's slot is free
  abbrev pub is_free_at : TableState T → Place → Bool
  is_free_at table place = not (is_slot_taken table (slot_of (id_at_place table place) table.capacity))

  -- the first candidate with a free slot: one for each slot is looked at
  abbrev pub next_place : TableState T → Option Place
  next_place table = find (is_free_at table) (candidates table.capacity table.capacity (place_of table))
