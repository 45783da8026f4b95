-- The order of a table's slots: what it tells of them, and what a write to a slot leaves of it.
use Rattle.std.proofs.Common.{◌≡◌, ◌<◌, ◌≤◌, ℕ, zero, suc, true, false, List, [], ◌∷◌, length, get_or, set, length-set, replicate, Option, Some, None, is_some, IfSome, refl, sym, ap, subst, ◌∙◌, inl, inr, arith}
use Rattle.std.specs.List.{list_any, insert, remove}
use Rattle.std.specs.Option.{option_or, MatchOption}
use Rattle.std.proofs.lemmas.Bool.{cases_eq, cases_lt, false_from_ne_true, false≢true}
use Rattle.std.proofs.lemmas.List.{length-replicate, get_or_default, get_or_past, get_or-set_same, get_or-set_other, set_past}
use Rattle.std.proofs.lemmas.List.Folds.{list_any_at}
use Rattle.std.proofs.lemmas.Slice.Eq.{bytes_eq-Decides}
use Rattle.osal_base.specs.Identifier.{slot_of}
use Rattle.osal_idtable.specs.declared.slot.Slot.{Slot}
use Rattle.osal_idtable.specs.declared.slot.Slot.TheVariants as slot
use Rattle.osal_idtable.specs.Table.{is_named}
use Rattle.osal_idtable.specs.Slots.{SlotsState, has_name, live_id, live_named, first_named, is_used, slot_at, with_value, with_holds}
use Rattle.osal_idtable.specs.Order.{IsPlaceOf, IsGapFor, listed, slot_name, name_in, Agrees, IsLone, HasNone}
use Rattle.osal_idtable.proofs.Order.{one_slot, gap_none, same_names, listed_in, taken_out, room_left}

named_is : (o : Option (List ℕ)) (name : List ℕ) → is_named o name ≡ true → o ≡ Some name
named_is None name is = absurd (false≢true is)
named_is (Some other) name is = ap Some ((bytes_eq-Decides other name).0 is)

or_none : {X : Type 0} (o : Option X) → option_or o None ≡ o
or_none None = refl
or_none (Some x) = refl

no_name_free : (T : Type 0) (n at : ℕ) → name_in {T = T} (replicate n slot.Free) at ≡ None
no_name_free T zero at = refl
no_name_free T (suc n) zero = refl
no_name_free T (suc n) (suc at) = no_name_free T n at

-- free slots have no order
pub agrees_free : (T : Type 0) (n : ℕ) → Agrees {T = T} (replicate n slot.Free) []
unfolding Agrees
agrees_free T n = record {
  named = λ place less. absurd (omega arith);
  rising = λ place later first next less under is also. absurd (omega arith);
  whole = λ at name is. let none : None ≡ Some name = sym (no_name_free T n at) ∙ is in cc;
}

module _ {T : Type 0} where
  name_has : (name : List ℕ) (s : Slot T) → has_name name s ≡ is_named (slot_name s) name
  name_has name slot.Free = refl
  name_has name (slot.Reserved id other) = refl
  name_has name (slot.Active id other holds object) = refl

  -- a slot has the name that it has
  has_its : (name : List ℕ) (s : Slot T) → slot_name s ≡ Some name → has_name name s ≡ true
  has_its name s is =
      name_has name s ∙ ap (λ o. is_named o name) is ∙ (bytes_eq-Decides name name).1 refl

  its_name : (name : List ℕ) (s : Slot T) → has_name name s ≡ true → slot_name s ≡ Some name
  its_name name s is = named_is (slot_name s) name (sym (name_has name s) ∙ is)

  -- a slot beyond the last has no name
  pub in_range : (slots : List (Slot T)) (at : ℕ) (name : List ℕ) → name_in slots at ≡ Some name → at < length slots
  in_range slots at name is = elim (cases_lt at (length slots)) [
    | inl less ↦ less
    | inr past ↦ let none : None ≡ Some name = sym (ap slot_name (get_or_past slots at slot.Free past)) ∙ is in cc
  ]

  -- the name of a slot that was read
  pub name_read : (slots : List (Slot T)) (at : ℕ) (found : Slot T) → at < length slots → found ≡ get_or slots at found → name_in slots at ≡ slot_name found
  name_read slots at found less is =
      ap slot_name (get_or_default slots at slot.Free found less ∙ sym is)

  -- a lone name is used
  pub used : (slots : List (Slot T)) (name : List ℕ) (at : ℕ) → IsLone slots name at → list_any (has_name name) slots ≡ true
  used slots name at lone =
      list_any_at (has_name name) slots at slot.Free lone.within (has_its name (get_or slots at slot.Free) lone.here)

  -- a name that no slot has is not used
  pub not_used : (slots : List (Slot T)) (name : List ℕ) → HasNone slots name → list_any (has_name name) slots ≡ false
  not_used [] name none = refl
  not_used (s ∷ slots) name none =
      let here : has_name name s ≡ false = false_from_ne_true (has_name name s) (λ is. none 0 (its_name name s is)) in
      rw (here, not_used slots name (λ at is. none (suc at) is)) refl

  -- a name that is not used is in no slot
  pub unused_none : (slots : List (Slot T)) (name : List ℕ) → list_any (has_name name) slots ≡ false → HasNone slots name
  unused_none slots name none at is =
      let taken : list_any (has_name name) slots ≡ true = list_any_at (has_name name) slots at slot.Free (in_range slots at name is) (has_its name (get_or slots at slot.Free) is) in
      false≢true (sym none ∙ taken)

  named_alive : (name : List ℕ) (s : Slot T) → slot_name s ≡ Some name → live_named name s ≡ live_id s
  named_alive name slot.Free is = refl
  named_alive name (slot.Reserved id other) is = refl
  named_alive name (slot.Active id other holds object) is = rw (is, (bytes_eq-Decides name name).1 refl) refl

  not_alive : (name : List ℕ) (s : Slot T) → has_name name s ≡ false → live_named name s ≡ None
  not_alive name slot.Free off = refl
  not_alive name (slot.Reserved id other) off = refl
  not_alive name (slot.Active id other holds object) off = rw off refl

  -- a name that no slot has is not found
  pub none_found : (slots : List (Slot T)) (name : List ℕ) → HasNone slots name → first_named name slots ≡ None
  none_found [] name none = refl
  none_found (s ∷ slots) name none =
      let here : has_name name s ≡ false = false_from_ne_true (has_name name s) (λ is. none 0 (its_name name s is)) in
      rw (not_alive name s here, none_found slots name (λ at is. none (suc at) is)) refl

  found_at : (slots : List (Slot T)) (name : List ℕ) (at : ℕ) → at < length slots → name_in slots at ≡ Some name → ((other : ℕ) → name_in slots other ≡ Some name → other ≡ at) → first_named name slots ≡ live_id (get_or slots at slot.Free)
  found_at [] name at less here lone = absurd (omega arith)
  found_at (s ∷ slots) name zero less here lone =
      let rest : first_named name slots ≡ None = none_found slots name (λ other is. let e = lone (suc other) is in absurd (omega arith)) in
      rw (rest, named_alive name s here) (or_none (live_id s))
  found_at (s ∷ slots) name (suc at) less here lone =
      let first : has_name name s ≡ false = false_from_ne_true (has_name name s) (λ is. let e = lone 0 (its_name name s is) in absurd (omega arith)) in
      let later : first_named name slots ≡ live_id (get_or slots at slot.Free) = found_at slots name at (omega arith) here (λ other is. let e = lone (suc other) is in omega arith) in
      rw (not_alive name s first) later

  -- the one slot with the name has what is found under it
  pub lone_found : (slots : List (Slot T)) (name : List ℕ) (at : ℕ) → IsLone slots name at → first_named name slots ≡ live_id (get_or slots at slot.Free)
  lone_found slots name at lone = found_at slots name at lone.within lone.here lone.lone

  -- the slot at the place of a name is the one with the name
  pub lone_at : (slots : List (Slot T)) (order name : List ℕ) (place : ℕ) → Agrees slots order → IsPlaceOf (name_in slots) order name place → IsLone slots name (listed order place)
  unfolding Agrees
  lone_at slots order name place agrees is = record {
    within = in_range slots (listed order place) name is.here;
    here = is.here;
    lone = λ other also. one_slot (name_in slots) order agrees other (listed order place) name also is.here;
  }

  -- a name with a gap is in no slot
  pub none_at : (slots : List (Slot T)) (order name : List ℕ) (gap : ℕ) → Agrees slots order → IsGapFor (name_in slots) order name gap → HasNone slots name
  unfolding Agrees
  none_at slots order name gap agrees is = gap_none (name_in slots) order agrees name gap is

  module _ (slots : List (Slot T)) (at : ℕ) (content : Slot T) where
    name_here : at < length slots → name_in (set slots at content) at ≡ slot_name content
    name_here less = ap slot_name (get_or-set_same slots at content slot.Free less)

    name_there : (other : ℕ) → (other ≡ at → ⊥) → name_in (set slots at content) other ≡ name_in slots other
    name_there other ne = ap slot_name (get_or-set_other slots at other content slot.Free ne)

    -- a write that keeps the name of the slot keeps the order
    pub agrees_kept : (order : List ℕ) → slot_name content ≡ name_in slots at → Agrees slots order → Agrees (set slots at content) order
    unfolding Agrees
    agrees_kept order same agrees =
        same_names (name_in slots) (name_in (set slots at content)) order (λ other. elim (cases_eq other at) [
          | inl is ↦ elim (cases_lt at (length slots)) [
            | inl less ↦ ap (name_in (set slots at content)) is ∙ name_here less ∙ same ∙ ap (name_in slots) (sym is)
            | inr past ↦ ap (λ ss. name_in ss other) (set_past slots at content past)
          ]
          | inr ne ↦ name_there other ne
        ]) agrees

    -- a new name is listed at its gap
    pub agrees_listed : (order name : List ℕ) (gap : ℕ) → at < length slots → name_in slots at ≡ None → slot_name content ≡ Some name → Agrees slots order → IsGapFor (name_in slots) order name gap → Agrees (set slots at content) (insert order gap at)
    unfolding Agrees
    agrees_listed order name gap less was is agrees is_gap =
        listed_in (name_in slots) (name_in (set slots at content)) order agrees at name_there name gap is_gap was (name_here less ∙ is)

    -- a name that goes is taken out at its place
    pub agrees_taken : (order name : List ℕ) (place : ℕ) → at < length slots → name_in slots at ≡ Some name → slot_name content ≡ None → Agrees slots order → IsPlaceOf (name_in slots) order name place → Agrees (set slots at content) (remove order place)
    unfolding Agrees
    agrees_taken order name place less was is agrees is_place =
        taken_out (name_in slots) (name_in (set slots at content)) order agrees at name_there name place is_place was (name_here less ∙ is)

  -- while a slot is free, the order has room for one more
  pub room_for : (slots : List (Slot T)) (order : List ℕ) (at : ℕ) → Agrees slots order → at < length slots → name_in slots at ≡ None → length order < length slots
  unfolding Agrees
  room_for slots order at agrees less none =
      room_left (name_in slots) order (length slots) at agrees less none (in_range slots)

  named_value : (s : Slot T) (value : T) → slot_name (with_value s value) ≡ slot_name s
  named_value slot.Free value = refl
  named_value (slot.Reserved id name) value = refl
  named_value (slot.Active id name holds object) value = refl

  named_holds : (s : Slot T) (holds : ℕ) → slot_name (with_holds s holds) ≡ slot_name s
  named_holds slot.Free holds = refl
  named_holds (slot.Reserved id name) holds = refl
  named_holds (slot.Active id name old object) holds = refl

  -- what always holds of the slots and their order, with memory for so many of it
  abbrev pub AreKept : List (Slot T) → List ℕ → ℕ → Type 0
  AreKept slots order room =
      (1 ≤ length slots) × (length slots ≤ 1024) × (length slots ≤ room) × Agrees slots order

  module _ (slots : List (Slot T)) (order : List ℕ) (room at n : ℕ) (are : AreKept slots order room) (less : at < n) (long : n ≡ length slots) where
    -- a write that keeps the name of a slot keeps all that
    pub kept : (found content : Slot T) → found ≡ get_or slots at found → slot_name content ≡ slot_name found → AreKept (set slots at content) order room
    kept found content read same =
        let count = length-set slots at content in
        let named : slot_name content ≡ name_in slots at = same ∙ sym (name_read slots at found (omega arith) read) in
        let first = are.0 in
        let second = are.1 in
        let third = are.2 in
        (omega arith, omega arith, omega arith, agrees_kept slots at content order named are.3)

    -- so does another object in it
    pub kept_value : (found : Slot T) (value : T) → found ≡ get_or slots at found → AreKept (set slots at (with_value found value)) order room
    kept_value found value read =
        kept found (with_value found value) read (named_value found value)

    -- and so do other holds
    pub kept_holds : (found : Slot T) (holds : ℕ) → found ≡ get_or slots at found → AreKept (set slots at (with_holds found holds)) order room
    kept_holds found holds read =
        kept found (with_holds found holds) read (named_holds found holds)

  -- whether a search found the name is whether it is used
  pub told_used : (slots : List (Slot T)) (name : List ℕ) (r : Option ℕ) → MatchOption r (HasNone slots name) (IsLone slots name) → is_some r ≡ list_any (has_name name) slots
  told_used slots name None none = sym (not_used slots name none)
  told_used slots name (Some at) lone = sym (used slots name at lone)

  -- the identifier in the one slot with the name is what is found
  pub lone_read : (slots : List (Slot T)) (name : List ℕ) (at : ℕ) (found : Slot T) → IsLone slots name at → found ≡ get_or slots at found → live_id found ≡ first_named name slots
  lone_read slots name at found lone read =
      ap live_id (read ∙ get_or_default slots at found slot.Free lone.within) ∙ sym (lone_found slots name at lone)

  -- a name that is not used is in no slot of the table
  pub none_of : (table : SlotsState T) (name : Option (List ℕ)) → is_used table name ≡ false → IfSome name (HasNone table.slots)
  none_of table None free = tt
  none_of table (Some name) free = unused_none table.slots name free

  -- a slot that was read is the one of the identifier
  pub slot_read : (table : SlotsState T) (id at n : ℕ) (slots : List (Slot T)) (found : Slot T) → slots ≡ table.slots → n ≡ length table.slots → at ≡ slot_of id n → at < n → found ≡ get_or slots at found → found ≡ slot_at table id
  slot_read table id at n slots found same long is less read =
      let count = ap length same in
      read ∙ get_or_default slots at found slot.Free (omega arith) ∙ ap (λ ss. get_or ss at slot.Free) same
      ∙ ap (λ k. get_or table.slots k slot.Free) (is ∙ ap (slot_of id) long)

  -- free slots with nothing in order
  pub free_kept : (slots : List (Slot T)) (order : List ℕ) (room capacity : ℕ) → slots ≡ replicate capacity slot.Free → order ≡ [] → capacity ≤ room → 1 ≤ capacity → capacity ≤ 1024 → AreKept slots order room
  free_kept slots order room capacity are none fits some few =
      let count : length slots ≡ capacity = ap length are ∙ length-replicate capacity slot.Free in
      (omega arith, omega arith, omega arith, subst (λ os. Agrees slots os) (sym none) (subst (λ ss. Agrees ss []) (sym are) (agrees_free T capacity)))
