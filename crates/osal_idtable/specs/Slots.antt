-- The slots behind a table, in order, and what they say of identifiers and names.
use Rattle.std.specs.Prelude.{◌≡◌, ◌<◌, ◌≤◌, ◌==◌, List, [], ◌∷◌, length, ℕ, Bool, true, false, Option, Some, None, find, slice_index_or, slice_set, if◌then◌else◌}
use Rattle.std.specs.Option.{option_or}
use Rattle.std.specs.List.{list_any}
use Rattle.osal_base.specs.Identifier.{compose, slot_of}
use Rattle.osal_idtable.specs.declared.place.Place.{Place}
use Rattle.osal_idtable.specs.declared.slot.Slot.{Slot}
use Rattle.osal_idtable.specs.declared.slot.Slot.TheVariants as slot
use Rattle.osal_idtable.specs.Table.{Active, is_named}
use Rattle.osal_idtable.specs.Next.{candidates}

-- the slots of a table of one type, and where its course of serials stands
pub record SlotsState (T : Type 0) : Type 0 where
  pub kind : ℕ
  pub slots : List (Slot T)
  pub last : ℕ
  pub wraps : ℕ

module _ {T : Type 0} where
  -- the active identifier in a slot, with what stands under it
  abbrev pub active_entry : Slot T → Option (ℕ × Active T)
  active_entry slot.Free = None
  active_entry (slot.Reserved id name) = None
  active_entry (slot.Active id name holds object) =
      Some (id, record { name = name; holds = holds; object = object })

  -- the reserved identifier in a slot, with its name
  abbrev pub reserved_entry : Slot T → Option (ℕ × Option (List ℕ))
  reserved_entry slot.Free = None
  reserved_entry (slot.Reserved id name) = Some (id, name)
  reserved_entry (slot.Active id name holds object) = None

  -- the slot with another object in the place of the one in it
  abbrev pub with_value : Slot T → T → Slot T
  with_value slot.Free value = slot.Free
  with_value (slot.Reserved id name) value = slot.Reserved id name
  with_value (slot.Active id name holds object) value = slot.Active id name holds value

  -- the slot with other holds of the object in it
  abbrev pub with_holds : Slot T → ℕ → Slot T
  with_holds slot.Free holds = slot.Free
  with_holds (slot.Reserved id name) holds = slot.Reserved id name
  with_holds (slot.Active id name old object) holds = slot.Active id name holds object

  -- whether the identifier in a slot is active
  abbrev pub is_live : Slot T → Bool
  is_live slot.Free = false
  is_live (slot.Reserved id name) = false
  is_live (slot.Active id name holds object) = true

  -- the active identifier in a slot
  abbrev pub live_id : Slot T → Option ℕ
  live_id slot.Free = None
  live_id (slot.Reserved id name) = None
  live_id (slot.Active id name holds object) = Some id

  -- the active identifier in a slot, where it has the name
  abbrev pub live_named : List ℕ → Slot T → Option ℕ
  live_named name slot.Free = None
  live_named name (slot.Reserved id other) = None
  live_named name (slot.Active id other holds object) = if is_named other name then Some id else None

  -- the active identifier with the name in the first slot that has one
  abbrev pub first_named : List ℕ → List (Slot T) → Option ℕ
  first_named name [] = None
  first_named name (s ∷ slots) = option_or (live_named name s) (first_named name slots)

  -- the active identifier in the first slot from this one on
  pub record FirstLive (slots : List (Slot T)) (start : ℕ) (id : ℕ) : Type 0 where
    pub at : ℕ
    pub reached : start ≤ at
    pub within : at < length slots
    pub live : live_id (slice_index_or slots at slot.Free) ≡ Some id
    pub before : (earlier : ℕ) → start ≤ earlier → earlier < at → live_id (slice_index_or slots earlier slot.Free) ≡ None

  -- no slot from this one on has an active identifier
  abbrev pub NoneLive : List (Slot T) → ℕ → Type 0
  NoneLive slots start =
      (at : ℕ) → start ≤ at → at < length slots → live_id (slice_index_or slots at slot.Free) ≡ None

  -- whether the identifier in a slot has the name
  abbrev pub has_name : List ℕ → Slot T → Bool
  has_name name slot.Free = false
  has_name name (slot.Reserved id other) = is_named other name
  has_name name (slot.Active id other holds object) = is_named other name

  -- whether a slot has no identifier
  abbrev pub is_free : Slot T → Bool
  is_free slot.Free = true
  is_free (slot.Reserved id name) = false
  is_free (slot.Active id name holds object) = false

  -- the slot of an identifier
  abbrev pub slot_at : SlotsState T → ℕ → Slot T
  slot_at table id = slice_index_or table.slots (slot_of id (length table.slots)) slot.Free

  -- the slots with another content in the slot of an identifier
  abbrev pub written : SlotsState T → ℕ → Slot T → SlotsState T
  written table id content =
      record table { slots = slice_set table.slots (slot_of id (length table.slots)) content }

  -- whether some slot has the optional name
  abbrev pub is_used : SlotsState T → Option (List ℕ) → Bool
  is_used table None = false
  is_used table (Some name) = list_any (has_name name) table.slots

  -- whether a place's slot is free
  abbrev pub is_open : SlotsState T → Place → Bool
  is_open table place = is_free (slot_at table (compose table.kind place.serial))

  -- the first candidate with a free slot
  abbrev pub next_open : SlotsState T → Option Place
  next_open table =
      find (is_open table)
      (candidates (length table.slots) (length table.slots) (record { serial = table.last; wraps = table.wraps }))

-- the value of an entry, where it has the key
abbrev pub value_at : {X : Type 0} → ℕ → Option (ℕ × X) → Option X
value_at id None = None
value_at id (Some entry) = if id == entry.0 then Some entry.1 else None
