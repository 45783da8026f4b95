-- What a table says, read off the slots that make it up.
use Rattle.std.proofs.Common.{◌≡◌, ℕ, ◌==◌, ◌||◌, Bool, true, false, not, List, [], ◌∷◌, length, get_or, Option, Some, None, is_some, find, refl, ap, ◌∙◌}
use Rattle.std.specs.List.{list_any}
use Rattle.std.specs.FinMap as map
use Rattle.osal_base.specs.Identifier.{compose, slot_of}
use Rattle.osal_idtable.specs.declared.place.Place.{Place}
use Rattle.osal_idtable.specs.declared.slot.Slot.{Slot}
use Rattle.osal_idtable.specs.declared.slot.Slot.TheVariants as slot
use Rattle.osal_idtable.specs.Table.{Active, active_at, is_named, is_name_taken, is_slot_taken}
use Rattle.osal_idtable.specs.Next.{next_place, is_free_at, candidates}
use Rattle.osal_idtable.specs.Slots.{SlotsState, active_entry, reserved_entry, has_name, is_free, is_open, is_used, next_open}
use Rattle.osal_idtable.specs.SlotSteps.{active_under, reserved_under}
use Rattle.osal_idtable.specs.Sound.{entries_in, active_map, reserved_map, table_of, home_in, Sound, IsSound}
use Rattle.osal_idtable.proofs.Keyed.{any_entries}
use Rattle.osal_idtable.proofs.Placed.{passes, any_in, distinct, get_placed, taken}

regroup : (a b c d : Bool) → ((a || b) || (c || d)) ≡ ((a || c) || (b || d))
regroup true b true d = refl
regroup true b false d = refl
regroup false true true d = refl
regroup false true false true = refl
regroup false true false false = refl
regroup false false c d = refl

or_false : (b : Bool) → (b || false) ≡ b
or_false true = refl
or_false false = refl

not_not : (b : Bool) → not (not b) ≡ b
not_not true = refl
not_not false = refl

find_alike : {E : Type 0} (f g : E → Bool) → ((e : E) → f e ≡ g e) → (es : List E) → find f es ≡ find g es
find_alike f g is [] = refl
find_alike f g is (e ∷ es) = rw (is e, find_alike f g is es) refl

name_here : {T : Type 0} (name : List ℕ) (s : Slot T) → (passes (λ e. is_named e.1.name name) (active_entry s) || passes (λ e. is_named e.1 name) (reserved_entry s)) ≡ has_name name s
name_here name slot.Free = refl
name_here name (slot.Reserved id other) = refl
name_here name (slot.Active id other holds object) = or_false (is_named other name)

here_or_free : {T : Type 0} (s : Slot T) → (is_some (active_entry s) || is_some (reserved_entry s)) ≡ not (is_free s)
here_or_free slot.Free = refl
here_or_free (slot.Reserved id name) = refl
here_or_free (slot.Active id name holds object) = refl

-- two tests of the parts are one test of the whole
any_or : {S : Type 0} (f g r : S → Bool) → ((s : S) → (f s || g s) ≡ r s) → (slots : List S) → (list_any f slots || list_any g slots) ≡ list_any r slots
any_or f g r is [] = refl
any_or f g r is (s ∷ slots) =
    regroup (f s) (list_any f slots) (g s) (list_any g slots) ∙ (rw (is s, any_or f g r is slots) refl)

module _ {T : Type 0} (table : SlotsState T) (sound : Sound table.slots) where
  active_placed : (id : ℕ) → map.get (active_map table.slots) id ≡ active_under table id
  unfolding active_map
  active_placed id = get_placed (home_in table.slots) active_entry slot.Free refl id table.slots sound.active

  reserved_placed : (id : ℕ) → map.get (reserved_map table.slots) id ≡ reserved_under table id
  unfolding reserved_map
  reserved_placed id = get_placed (home_in table.slots) reserved_entry slot.Free refl id table.slots sound.reserved

  any_active : (test : ℕ × Active T → Bool) → list_any test (map.entries (active_map table.slots)) ≡ list_any test (entries_in active_entry table.slots)
  unfolding active_map
  any_active test =
      any_entries test (entries_in active_entry table.slots) (distinct (home_in table.slots) active_entry 0 table.slots sound.active)

  any_reserved : (test : ℕ × Option (List ℕ) → Bool) → list_any test (map.entries (reserved_map table.slots)) ≡ list_any test (entries_in reserved_entry table.slots)
  unfolding reserved_map
  any_reserved test =
      any_entries test (entries_in reserved_entry table.slots) (distinct (home_in table.slots) reserved_entry 0 table.slots sound.reserved)

  name_there : (name : List ℕ) → is_name_taken (table_of table) (Some name) ≡ list_any (has_name name) table.slots
  name_there name =
      rw (any_active (λ e. is_named e.1.name name), any_reserved (λ e. is_named e.1 name), any_in active_entry (λ e. is_named e.1.name name) table.slots, any_in reserved_entry (λ e. is_named e.1 name) table.slots)
      (any_or _ _ (has_name name) (name_here name) table.slots)

  slot_there : (at : ℕ) → is_slot_taken (table_of table) at ≡ not (is_free (get_or table.slots at slot.Free))
  slot_there at =
      rw (any_active (λ e. home_in table.slots e.0 == at), any_reserved (λ e. home_in table.slots e.0 == at), taken (home_in table.slots) active_entry slot.Free refl at table.slots sound.active, taken (home_in table.slots) reserved_entry slot.Free refl at table.slots sound.reserved)
      (here_or_free (get_or table.slots at slot.Free))

  place_there : (place : Place) → is_free_at (table_of table) place ≡ is_open table place
  place_there place =
      ap not (slot_there (slot_of (compose table.kind place.serial) (length table.slots)))
      ∙ not_not (is_free (get_or table.slots (slot_of (compose table.kind place.serial) (length table.slots)) slot.Free))

module _ {T : Type 0} (table : SlotsState T) where
  -- an active identifier stands in its slot
  pub active_seen : IsSound table → (id : ℕ) → active_at (table_of table) id ≡ active_under table id
  unfolding IsSound
  active_seen sound id = active_placed table sound id

  -- a reserved identifier stands in its slot
  pub reserved_seen : IsSound table → (id : ℕ) → map.get (reserved_map table.slots) id ≡ reserved_under table id
  unfolding IsSound
  reserved_seen sound id = reserved_placed table sound id

  -- a name is taken where a slot has it
  pub name_seen : IsSound table → (name : Option (List ℕ)) → is_name_taken (table_of table) name ≡ is_used table name
  unfolding IsSound
  name_seen sound None = refl
  name_seen sound (Some name) = name_there table sound name

  -- the next identifier is the one of the next open slot
  pub next_seen : IsSound table → next_place (table_of table) ≡ next_open table
  unfolding IsSound
  next_seen sound =
      find_alike (is_free_at (table_of table)) (is_open table) (place_there table sound)
      (candidates (length table.slots) (length table.slots) (record { serial = table.last; wraps = table.wraps }))
