-- An object table: the objects under their identifiers, the reserved identifiers, and the last serial issued.
use Rattle.std.specs.Prelude.{◌||◌, ◌==◌, List, ℕ, Bool, false, Option, Some, None}
use Rattle.std.specs.List.{list_any}
use Rattle.std.specs.Ordering.{nat_cmp}
use Rattle.std.specs.Str.{bytes_eq}
use Rattle.std.specs.FinMap as map
use Rattle.osal_base.specs.Identifier.{slot_of}

-- what stands under an active identifier
pub record Active (T : Type 0) : Type 0 where
  pub name : Option (List ℕ)
  pub holds : ℕ
  pub object : T

-- a table of one type of objects
pub record TableState (T : Type 0) : Type 0 where
  pub kind : ℕ
  pub capacity : ℕ
  pub active : map.FinMap nat_cmp (Active T)
  pub reserved : map.FinMap nat_cmp (Option (List ℕ))
  pub last : ℕ
  pub wraps : ℕ

-- the most holds of one object: a million by callers, and one for each wait that may stand on it
abbrev pub hold_limit : ℕ
hold_limit = 1001024

-- a reserved identifier and its name, as its token says
pub record Reserved : Type 0 where
  pub id : ℕ
  pub name : Option (List ℕ)

-- whether an optional name is this one
abbrev pub is_named : Option (List ℕ) → List ℕ → Bool
is_named None name = false
is_named (Some other) name = bytes_eq other name

module _ {T : Type 0} where
  -- a table with no identifiers
  abbrev pub opening : ℕ → ℕ → TableState T
  opening kind capacity = record {
    kind = kind;
    capacity = capacity;
    active = map.empty;
    reserved = map.empty;
    last = 0;
    wraps = 0;
  }

  -- what stands under an identifier, if it is active
  abbrev pub active_at : TableState T → ℕ → Option (Active T)
  active_at table id = map.get table.active id

  -- whether an active identifier has the name
  abbrev pub is_active_name : TableState T → List ℕ → Bool
  is_active_name table name = list_any (λ e. is_named e.1.name name) (map.entries table.active)

  -- whether a reserved identifier has the name
  abbrev pub is_reserved_name : TableState T → List ℕ → Bool
  is_reserved_name table name = list_any (λ e. is_named e.1 name) (map.entries table.reserved)

  -- whether an optional name is there already
  abbrev pub is_name_taken : TableState T → Option (List ℕ) → Bool
  is_name_taken table None = false
  is_name_taken table (Some name) = is_active_name table name || is_reserved_name table name

  -- whether an active or reserved identifier has the slot
  abbrev pub is_slot_taken : TableState T → ℕ → Bool
  is_slot_taken table slot =
      list_any (λ e. slot_of e.0 table.capacity == slot) (map.entries table.active)
      || list_any (λ e. slot_of e.0 table.capacity == slot) (map.entries table.reserved)

  -- the table with another object under the identifier
  abbrev pub with_active : TableState T → ℕ → Active T → TableState T
  with_active table id active = record table { active = map.insert table.active id active }

  -- the table with another object in the place of the one that an identifier names
  abbrev pub replaced : TableState T → ℕ → T → Option (Active T) → TableState T
  replaced table id object None = table
  replaced table id object (Some active) = with_active table id (record active { object = object })

  -- the same, found by the identifier
  abbrev pub with_object : TableState T → ℕ → T → TableState T
  with_object table id object = replaced table id object (active_at table id)
