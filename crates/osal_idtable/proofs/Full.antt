-- The candidates come to each slot, so where none of them is free each slot is taken.
use Rattle.std.proofs.Common.{◌≡◌, ◌<◌, ◌+◌, ◌-◌, ◌%◌, ℕ, zero, suc, Bool, true, false, cond, find, Option, Some, None, List, Err, nat_lt, refl, sym, ap, subst, ◌∙◌, inl, inr, arith}
use Rattle.std.proofs.Math.Nat.{mod-lt, mod-eq_of_lt, add-mod_right, mod-add-mod, mul-add-mod_self_right}
use Rattle.std.proofs.lemmas.Bool.{cases_lt, cond_both, not-false}
use Rattle.std.proofs.lemmas.Bool.Decides.{nat_tests}
use Rattle.osal_base.specs.Identifier.{compose, slot_of}
use Rattle.osal_base.specs.Limits.{IsCapacity}
use Rattle.osal_idtable.specs.declared.place.Place.{Place}
use Rattle.osal_idtable.specs.declared.table.ReserveFault.TheVariants as reserve_fault
use Rattle.osal_idtable.specs.Table.{TableState, is_name_taken, is_slot_taken}
use Rattle.osal_idtable.specs.Next.{after, candidates, place_of, next_place, id_at_place, is_free_at}
use Rattle.osal_idtable.specs.Steps.{issue}
use Rattle.osal_idtable.specs.Laws.{NoneFreeMeansFull}

-- numbers with the same rest have the same rest after as many more
rest_more : (capacity a b more : ℕ) → a % capacity ≡ b % capacity → (a + more) % capacity ≡ (b + more) % capacity
rest_more capacity a b more same =
    sym (mod-add-mod a capacity more) ∙ ap (λ n. (n + more) % capacity) same ∙ mod-add-mod b capacity more

-- the place after one has a serial that fits an identifier, in the slot that comes next
record IsAfter (capacity : ℕ) (place next : Place) : Type 0 where
  low : next.serial < 65536
  slot : next.serial % capacity ≡ (place.serial + 1) % capacity

is_after : (capacity : ℕ) (place : Place) → IsCapacity capacity → IsAfter capacity place (after capacity place)
is_after capacity place room =
    let some = room.0 in
    let few = room.1 in
    let below : (place.serial + 1) % capacity < capacity = mod-lt (place.serial + 1) (omega arith) in
    cond_both (nat_lt (place.serial + 1) 65535) _ _ (IsAfter capacity place)
    (λ t. record { low = grind (arith, nat_tests); slot = refl })
    (λ t. record { low = omega arith; slot = mod-eq_of_lt below })

-- the slot of an identifier of a serial that fits
composed_slot : (kind serial capacity : ℕ) → serial < 65536 → slot_of (compose kind serial) capacity ≡ serial % capacity
composed_slot kind serial capacity low =
    ap (λ n. n % capacity) (mul-add-mod_self_right kind 65536 serial ∙ mod-eq_of_lt low)

module _ {T : Type 0} (table : TableState T) (room : IsCapacity table.capacity) where
  -- so many slots from a place on are taken
  abbrev AreTaken : ℕ → ℕ → Type 0
  AreTaken serial n = (k : ℕ) → k < n → is_slot_taken table ((serial + 1 + k) % table.capacity) ≡ true

  one_more : (n : ℕ) (place : Place) → is_free_at table (after table.capacity place) ≡ false → AreTaken (after table.capacity place).serial n → AreTaken place.serial (suc n)
  one_more n place shut rest zero less =
      let next = after table.capacity place in
      let is = is_after table.capacity place room in
      subst (λ slot. is_slot_taken table slot ≡ true)
      (composed_slot table.kind next.serial table.capacity is.low ∙ is.slot ∙ ap (λ n. n % table.capacity) (omega arith))
      (not-false (is_slot_taken table (slot_of (id_at_place table next) table.capacity)) shut)
  one_more n place shut rest (suc k) less =
      let next = after table.capacity place in
      let is = is_after table.capacity place room in
      let here : (next.serial + 1 + k) % table.capacity ≡ (place.serial + 1 + suc k) % table.capacity =
      ap (λ n. n % table.capacity) (omega arith)
      ∙ rest_more table.capacity next.serial (place.serial + 1) (1 + k) is.slot
      ∙ ap (λ n. n % table.capacity) (omega arith) in
      subst (λ slot. is_slot_taken table slot ≡ true) here (rest k (omega arith))

  none_found : (n : ℕ) (place : Place) → find (is_free_at table) (candidates table.capacity n place) ≡ None → AreTaken place.serial n
  none_found zero place none = λ k less. absurd (omega arith)
  none_found (suc n) place none =
      elim (is_free_at table (after table.capacity place)) as (λ b. is_free_at table (after table.capacity place) ≡ b → cond b (Some (after table.capacity place)) (find (is_free_at table) (candidates table.capacity n (after table.capacity place))) ≡ None → AreTaken place.serial (suc n)) [
        | true ↦ λ free none. cc
        | false ↦ λ shut none. one_more n place shut (none_found n (after table.capacity place) none)
      ] refl none

  -- which of the next slots is a slot
  reached : (slot : ℕ) → slot < table.capacity → (k : ℕ) × (k < table.capacity) × ((table.last + 1 + k) % table.capacity ≡ slot)
  reached slot below =
      let some = room.0 in
      let rest = (table.last + 1) % table.capacity in
      let less : rest < table.capacity = mod-lt (table.last + 1) (omega arith) in
      let same : (table.last + 1) % table.capacity ≡ rest % table.capacity = sym (mod-eq_of_lt less) in
      elim (cases_lt slot rest) [
        | inr ahead ↦ (
          slot - rest,
          omega arith,
          rest_more table.capacity (table.last + 1) rest (slot - rest) same ∙ ap (λ n. n % table.capacity) (omega arith) ∙ mod-eq_of_lt below,
        )
        | inl behind ↦ (
          slot + table.capacity - rest,
          omega arith,
          rest_more table.capacity (table.last + 1) rest (slot + table.capacity - rest) same
              ∙ ap (λ n. n % table.capacity) (omega arith) ∙ add-mod_right slot table.capacity ∙ mod-eq_of_lt below,
        )
      ]

  none_next : (name : Option (List ℕ)) (taken : Bool) (o : Option Place) → (cond taken (Err reserve_fault.NameTaken, table) (issue table name o)).0 ≡ Err reserve_fault.NoFreeIds → o ≡ None
  none_next name true o none = cc
  none_next name false None none = refl
  none_next name false (Some place) none = cc

-- a reservation finds no free identifier only where each slot is taken
pub none_free_full : (T : Type 0) → NoneFreeMeansFull T
none_free_full T table name slot room none below =
    let all = none_found table room table.capacity (place_of table) (none_next table room name (is_name_taken table name) (next_place table) none) in
    let at = reached table room slot below in
    subst (λ n. is_slot_taken table n ≡ true) at.2 (all at.0 at.1)
