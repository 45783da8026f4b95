-- How slots make up a table, and what always holds of them.
use Rattle.std.specs.Prelude.{◌≡◌, ◌≤◌, ℕ, suc, Bool, true, false, List, [], ◌∷◌, length, Option, Some, None}
use Rattle.std.specs.List.{list_any}
use Rattle.std.specs.Ordering.{nat_cmp}
use Rattle.std.specs.FinMap as map
use Rattle.osal_base.specs.Identifier.{slot_of}
use Rattle.osal_idtable.specs.declared.slot.Slot.{Slot}
use Rattle.osal_idtable.specs.Table.{Active, TableState}
use Rattle.osal_idtable.specs.Slots.{SlotsState, active_entry, reserved_entry, has_name}

-- the entry, if there is one, before the others
abbrev pub kept : {E : Type 0} → Option E → List E → List E
kept None es = es
kept (Some e) es = e ∷ es

-- the entries that some slots have, in order
abbrev pub entries_in : {S E : Type 0} → (S → Option E) → List S → List E
entries_in pick [] = []
entries_in pick (s ∷ slots) = kept (pick s) (entries_in pick slots)

-- the entry, if there is one, stands in its key's slot
abbrev pub IsHome : {X : Type 0} → (ℕ → ℕ) → ℕ → Option (ℕ × X) → Type 0
IsHome home slot None = Unit {0}
IsHome home slot (Some e) = home e.0 ≡ slot

-- each entry stands in its key's slot, where the first slot has this number
abbrev pub Placed : {S X : Type 0} → (ℕ → ℕ) → (S → Option (ℕ × X)) → ℕ → List S → Type 0
Placed home pick slot [] = Unit {0}
Placed home pick slot (s ∷ slots) = IsHome home slot (pick s) × Placed home pick (suc slot) slots

-- at most one element passes the test
abbrev pub AtMostOne : {E : Type 0} → (E → Bool) → List E → Type 0
AtMostOne test [] = Unit {0}
AtMostOne test (e ∷ es) = (test e ≡ true → list_any test es ≡ false) × AtMostOne test es

module _ {T : Type 0} where
  -- the active identifiers of some slots
  unfoldable pub active_map : List (Slot T) → map.FinMap nat_cmp (Active T)
  active_map slots = map.from_entries (entries_in active_entry slots)

  -- the reserved identifiers of some slots
  unfoldable pub reserved_map : List (Slot T) → map.FinMap nat_cmp (Option (List ℕ))
  reserved_map slots = map.from_entries (entries_in reserved_entry slots)

  -- the table that the slots make up
  abbrev pub table_of : SlotsState T → TableState T
  table_of table = record {
    kind = table.kind;
    capacity = length table.slots;
    active = active_map table.slots;
    reserved = reserved_map table.slots;
    last = table.last;
    wraps = table.wraps;
  }

  -- where an identifier belongs
  abbrev pub home_in : List (Slot T) → ℕ → ℕ
  home_in slots id = slot_of id (length slots)

  -- there is a slot, each identifier stands in its own, and no name stands twice
  pub record Sound (slots : List (Slot T)) : Type 0 where
    pub some : 1 ≤ length slots
    pub active : Placed (home_in slots) active_entry 0 slots
    pub reserved : Placed (home_in slots) reserved_entry 0 slots
    pub named : (name : List ℕ) → AtMostOne (has_name name) slots

  -- the same, closed to searches
  unfoldable pub IsSound : SlotsState T → Type 0
  IsSound table = Sound table.slots
