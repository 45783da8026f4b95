-- What holds of every table over any calls.
use Rattle.std.specs.Prelude.{◌≡◌, ◌<◌, ◌-◌, ◌^◌, ◌⊎◌, ℕ, List, [], ◌∷◌, true, Option, Ok, Err}
use Rattle.osal_base.specs.Limits.{IsCapacity}
use Rattle.osal_idtable.specs.declared.place.Place.{Place}
use Rattle.osal_idtable.specs.declared.table.ReserveFault.TheVariants as reserve_fault
use Rattle.osal_idtable.specs.Table.{TableState, Reserved, with_object, is_slot_taken}
use Rattle.osal_idtable.specs.Next.{place_of}
use Rattle.osal_idtable.specs.Steps.{reserve_step, finalize_step, remove_step, claim_step}
use Rattle.osal_idtable.specs.Holds.{hold_step, release_step}

-- the second place is greater, compared by the wrap count first
abbrev pub IsGreater : Place → Place → Type 0
IsGreater first second =
    (first.wraps < second.wraps) ⊎ ((first.wraps ≡ second.wraps) × (first.serial < second.serial))

-- a call that changes a table
pub data Call (T : Type 0) : Type 0 where
  Reserve : Option (List ℕ) → Call T
  Finalize : ℕ → Option T → Call T
  Put : ℕ → T → Call T
  Remove : ℕ → Call T
  Claim : ℕ → Call T
  Hold : ℕ → Call T
  Release : ℕ → Call T

module _ {T : Type 0} where
  -- the table after a call
  abbrev pub called : TableState T → Call T → TableState T
  called table (Reserve name) = (reserve_step table name).1
  called table (Finalize id value) = finalize_step table id value
  called table (Put id object) = with_object table id object
  called table (Remove id) = (remove_step table id).1
  called table (Claim id) = (claim_step table id).1
  called table (Hold id) = (hold_step table id).1
  called table (Release id) = (release_step table id).1

  -- the table after some calls, in order
  abbrev pub after_calls : TableState T → List (Call T) → TableState T
  after_calls table [] = table
  after_calls table (call ∷ calls) = after_calls (called table call) calls

-- each reservation moves the course on, while the wrap count is below its greatest value
abbrev pub SerialsRise : Type 0 → Type 0
SerialsRise T =
    (table : TableState T) (name : Option (List ℕ)) (reserved : Reserved)
    → table.wraps < 2 ^ 64 - 1
    → (reserve_step table name).0 ≡ Ok reserved
    → IsGreater (place_of table) (place_of (reserve_step table name).1)

-- an identifier that was issued is not issued again before the wrap count has risen, whatever is called between
abbrev pub NotReissued : Type 0 → Type 0
NotReissued T =
    (table : TableState T) (name : Option (List ℕ)) (issued : Reserved)
    → (reserve_step table name).0 ≡ Ok issued
    → (calls : List (Call T)) (other : Option (List ℕ)) (again : Reserved)
    → (reserve_step (after_calls (reserve_step table name).1 calls) other).0 ≡ Ok again
    → again.id ≡ issued.id
    → (reserve_step table name).1.wraps < 2 ^ 64 - 1
    → (reserve_step table name).1.wraps < (reserve_step (after_calls (reserve_step table name).1 calls) other).1.wraps

-- where no identifier is free, each slot has one that is active or reserved
abbrev pub NoneFreeMeansFull : Type 0 → Type 0
NoneFreeMeansFull T =
    (table : TableState T) (name : Option (List ℕ)) (slot : ℕ)
    → IsCapacity table.capacity
    → (reserve_step table name).0 ≡ Err reserve_fault.NoFreeIds
    → slot < table.capacity
    → is_slot_taken table slot ≡ true
