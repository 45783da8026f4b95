-- The order of the slots by their names.
use Rattle.std.specs.Prelude.{◌≡◌, ◌<◌, ◌≤◌, ℕ, List, length, Option, Some, None, slice_index_or}
use Rattle.std.specs.Ordering.{nat_cmp}
use Rattle.std.specs.Cmp.Lexicographic.{slice_cmp}
use Rattle.std.specs.declared.cmp.Ordering.{Ordering}
use Rattle.std.specs.declared.cmp.Ordering.TheVariants.{Less}
use Rattle.osal_idtable.specs.declared.slot.Slot.{Slot}
use Rattle.osal_idtable.specs.declared.slot.Slot.TheVariants as slot

-- how an optional name compares with a name, byte by byte: none is less
abbrev pub name_cmp : Option (List ℕ) → List ℕ → Ordering
name_cmp None name = Less
name_cmp (Some other) name = slice_cmp nat_cmp other name

-- the slot at a place of the order
abbrev pub listed : List ℕ → ℕ → ℕ
listed order place = slice_index_or order place 0

-- the order has each slot with a name once, by rising names
pub record Ordered (names : ℕ → Option (List ℕ)) (order : List ℕ) : Type 0 where
  pub named : (place : ℕ) → place < length order → (name : List ℕ) × (names (listed order place) ≡ Some name)
  pub rising : (place later : ℕ) (name next : List ℕ) → place < later → later < length order → names (listed order place) ≡ Some name → names (listed order later) ≡ Some next → slice_cmp nat_cmp name next ≡ Less
  pub whole : (at : ℕ) (name : List ℕ) → names at ≡ Some name → (place : ℕ) × (place < length order) × (listed order place ≡ at)

-- a name stands at this place
pub record IsPlaceOf (names : ℕ → Option (List ℕ)) (order name : List ℕ) (place : ℕ) : Type 0 where
  pub within : place < length order
  pub here : names (listed order place) ≡ Some name

-- a name would stand at this place: less ones before it, greater ones from it on
pub record IsGapFor (names : ℕ → Option (List ℕ)) (order name : List ℕ) (place : ℕ) : Type 0 where
  pub within : place ≤ length order
  pub before : (earlier : ℕ) (other : List ℕ) → earlier < place → names (listed order earlier) ≡ Some other → slice_cmp nat_cmp other name ≡ Less
  pub after : (later : ℕ) (other : List ℕ) → place ≤ later → later < length order → names (listed order later) ≡ Some other → slice_cmp nat_cmp name other ≡ Less

module _ {T : Type 0} where
  -- the name of the identifier in a slot
  abbrev pub slot_name : Slot T → Option (List ℕ)
  slot_name slot.Free = None
  slot_name (slot.Reserved id name) = name
  slot_name (slot.Active id name holds object) = name

  -- the name in the slot with this number
  abbrev pub name_in : List (Slot T) → ℕ → Option (List ℕ)
  name_in slots at = slot_name (slice_index_or slots at slot.Free)

  -- the order agrees with the slots
  unfoldable pub Agrees : List (Slot T) → List ℕ → Type 0
  Agrees slots order = Ordered (name_in slots) order

  -- the one slot with the name
  pub record IsLone (slots : List (Slot T)) (name : List ℕ) (at : ℕ) : Type 0 where
    pub within : at < length slots
    pub here : name_in slots at ≡ Some name
    pub lone : (other : ℕ) → name_in slots other ≡ Some name → other ≡ at

  -- no slot has the name
  abbrev pub HasNone : List (Slot T) → List ℕ → Type 0
  HasNone slots name = (at : ℕ) → (name_in slots at ≡ Some name) → ⊥
