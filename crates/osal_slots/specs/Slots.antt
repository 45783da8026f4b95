-- Places beside a table of identifiers: what belongs to an identifier stands in the place of its slot.
use Rattle.std.specs.Prelude.{List, ℕ, Option, None, length, slice_index_or, slice_set}
use Rattle.osal_base.specs.Identifier.{slot_of}

-- the slot of an identifier among some places
abbrev pub slot_among : {X : Type 0} → List (Option X) → ℕ → ℕ
slot_among places id = slot_of id (length places)

-- what stands in the slot of an identifier
abbrev pub in_slot : {X : Type 0} → List (Option X) → ℕ → Option X
in_slot places id = slice_index_or places (slot_among places id) None

-- the same with something else in that slot
abbrev pub with_slot : {X : Type 0} → List (Option X) → ℕ → Option X → List (Option X)
with_slot places id change = slice_set places (slot_among places id) change
