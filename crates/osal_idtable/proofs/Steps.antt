-- Each call's step on the slots is its step on the table, and keeps the slots sound.
use Rattle.std.proofs.Common.{◌≡◌, ◌≤◌, ℕ, zero, suc, Bool, true, false, cond, length, List, [], ◌∷◌, find, Option, Some, None, is_some, nat_lt, IfOk, IfSome, Result, Ok, Err, arith, refl, sym, ap, subst, ◌∙◌, replicate}
use Rattle.std.specs.List.{list_any}
use Rattle.std.specs.FinMap as map
use Rattle.std.proofs.lemmas.Bool.{false≢true}
use Rattle.std.proofs.lemmas.Bool.Decides.{nat_tests}
use Rattle.std.proofs.lemmas.List.{length-replicate}
use Rattle.std.proofs.lemmas.Option.{some_pair_parts}
use Rattle.osal_base.specs.Identifier.{compose}
use Rattle.osal_idtable.specs.declared.place.Place.{Place}
use Rattle.osal_idtable.specs.declared.slot.Slot.{Slot}
use Rattle.osal_idtable.specs.declared.slot.Slot.TheVariants as slot
use Rattle.osal_idtable.specs.declared.table.ReserveFault.{ReserveFault}
use Rattle.osal_idtable.specs.declared.table.ReserveFault.TheVariants as reserve_fault
use Rattle.osal_idtable.specs.declared.table.IdFault.TheVariants as id_fault
use Rattle.osal_idtable.specs.Table.{opening, Active, TableState, Reserved, is_name_taken, with_object, replaced}
use Rattle.osal_idtable.specs.Next.{next_place}
use Rattle.osal_idtable.specs.Steps.{peeked, issue, reserve_step, settle, finalize_step, is_reserved, lookup, looked_up, unheld, take_out, remove_step}
use Rattle.osal_idtable.specs.Slots.{SlotsState, has_name, active_entry, reserved_entry, is_free, is_open, is_used, next_open, slot_at}
use Rattle.osal_idtable.specs.SlotSteps.{active_under, reserved_under, slot_issue, slot_reserve, slot_settle, slot_finalize, slot_lookup, slot_take_out, slot_remove, slot_replaced, slot_put}
use Rattle.osal_idtable.specs.Sound.{entries_in, Placed, AtMostOne, active_map, reserved_map, table_of, Sound, IsSound}
use Rattle.osal_idtable.proofs.Placed.{value_at_some}
use Rattle.osal_idtable.proofs.Seen.{active_seen, reserved_seen, name_seen, next_seen}
use Rattle.osal_idtable.proofs.Moves.{give_up, take_away, settle_down, rewrite, set_aside}

-- an answer, with the table that the slots make up
abbrev pub seen : {A T : Type 0} → A × SlotsState T → A × TableState T
seen pair = (pair.0, table_of pair.1)

-- slots that a sound step leaves
pub sound_after : {A T : Type 0} {p q : A × SlotsState T} → p ≡ q → IsSound q.1 → IsSound p.1
sound_after e sound = subst (λ p. IsSound p.1) (sym e) sound

-- slots that are sound, by another name
pub sound_as : {T : Type 0} {a b : SlotsState T} → a ≡ b → IsSound b → IsSound a
sound_as e sound = subst IsSound (sym e) sound

free_is : {T : Type 0} (s : Slot T) → is_free s ≡ true → s ≡ slot.Free
free_is slot.Free e = refl
free_is (slot.Reserved id name) e = absurd (false≢true e)
free_is (slot.Active id name holds object) e = absurd (false≢true e)

pub find_passes : {E : Type 0} (p : E → Bool) (es : List E) (e : E) → find p es ≡ Some e → p e ≡ true
find_passes p [] e is = cc
find_passes p (x ∷ es) e is =
    elim (p x) as (λ b. p x ≡ b → cond b (Some x) (find p es) ≡ Some e → p e ≡ true) [
      | true ↦ λ t is. let same : x ≡ e = cc in rw same at t
      | false ↦ λ t is. find_passes p es e is
    ] refl is

active_is : {T : Type 0} (s : Slot T) (id : ℕ) (a : Active T) → active_entry s ≡ Some (id, a) → s ≡ slot.Active id a.name a.holds a.object
active_is slot.Free id a e = cc
active_is (slot.Reserved at name) id a e = cc
active_is (slot.Active at name holds object) id a e =
    let parts = some_pair_parts at id (record { name = name; holds = holds; object = object }) a e in
    λ i. slot.Active (parts.0 i) (parts.1 i).name (parts.1 i).holds (parts.1 i).object

reserved_is : {T : Type 0} (s : Slot T) (id : ℕ) (name : Option (List ℕ)) → reserved_entry s ≡ Some (id, name) → s ≡ slot.Reserved id name
reserved_is slot.Free id name e = cc
reserved_is (slot.Reserved at other) id name e =
    let parts = some_pair_parts at id other name e in λ i. slot.Reserved (parts.0 i) (parts.1 i)
reserved_is (slot.Active at other holds object) id name e = cc

module _ {T : Type 0} (table : SlotsState T) where
  pub active_slot : (id : ℕ) (a : Active T) → active_under table id ≡ Some a → slot_at table id ≡ slot.Active id a.name a.holds a.object
  active_slot id a e = active_is (slot_at table id) id a (value_at_some id (active_entry (slot_at table id)) a e)

  reserved_slot : (id : ℕ) (name : Option (List ℕ)) → reserved_under table id ≡ Some name → slot_at table id ≡ slot.Reserved id name
  reserved_slot id name e =
      reserved_is (slot_at table id) id name (value_at_some id (reserved_entry (slot_at table id)) name e)

  open_slot : (place : Place) → next_open table ≡ Some place → slot_at table (compose table.kind place.serial) ≡ slot.Free
  open_slot place e = free_is _ (find_passes (is_open table) _ place e)

  module _ (sound : IsSound table) where
    issued : (name : Option (List ℕ)) (o : Option Place) → next_open table ≡ o → is_used table name ≡ false → (seen (slot_issue table name o) ≡ issue (table_of table) name o) × IsSound (slot_issue table name o).1
    unfolding IsSound
    issued name None is unused = (refl, sound)
    issued name (Some place) is unused =
        let id = compose table.kind place.serial in
        let set = set_aside table id sound name (open_slot place is) unused in (
          (λ i. (Ok (record { id = id; name = name }), record (set.0 i) { last = place.serial; wraps = place.wraps })),
          set.1,
        )

    reserved_both : (name : Option (List ℕ)) (b : Bool) → is_used table name ≡ b → (seen (cond b (Err reserve_fault.NameTaken, table) (slot_issue table name (next_open table))) ≡ cond b (Err reserve_fault.NameTaken, table_of table) (issue (table_of table) name (next_open table))) × IsSound (cond b (Err reserve_fault.NameTaken, table) (slot_issue table name (next_open table))).1
    reserved_both name true is = (refl, sound)
    reserved_both name false is = issued name (next_open table) refl is

    pub reserve_same : (name : Option (List ℕ)) → seen (slot_reserve table name) ≡ reserve_step (table_of table) name
    reserve_same name =
        (reserved_both name (is_used table name) refl).0 ∙ (rw (name_seen table sound name, next_seen table sound) refl)

    -- a look ahead at what a reservation would give
    pub peek_same : (name : Option (List ℕ)) → peeked (slot_reserve table name).0 ≡ peeked (reserve_step (table_of table) name).0
    peek_same name = ap (λ p. peeked p.0) (reserve_same name)

    pub reserve_sound : (name : Option (List ℕ)) → IsSound (slot_reserve table name).1
    reserve_sound name = (reserved_both name (is_used table name) refl).1

    settled : (id : ℕ) (o : Option (Option (List ℕ))) (value : Option T) → reserved_under table id ≡ o → (table_of (slot_settle table id o value) ≡ settle (table_of table) id o value) × IsSound (slot_settle table id o value)
    unfolding IsSound
    settled id None value is = (refl, sound)
    settled id (Some name) None is = give_up table id sound name (reserved_slot id name is)
    settled id (Some name) (Some object) is = settle_down table id sound name object (reserved_slot id name is)

    pub finalize_same : (id : ℕ) (value : Option T) → table_of (slot_finalize table id value) ≡ finalize_step (table_of table) id value
    finalize_same id value =
        (settled id (reserved_under table id) value refl).0 ∙ ap (λ o. settle (table_of table) id o value) (sym (reserved_seen table sound id))

    pub finalize_sound : (id : ℕ) (value : Option T) → IsSound (slot_finalize table id value)
    finalize_sound id value = (settled id (reserved_under table id) value refl).1

    pub is_reserved_same : (id : ℕ) → is_reserved (table_of table) id ≡ is_some (reserved_under table id)
    is_reserved_same id = ap is_some (reserved_seen table sound id)

    pub lookup_same : (id : ℕ) → lookup (table_of table) id ≡ slot_lookup table id
    lookup_same id = ap looked_up (active_seen table sound id)

    taken_out : (id : ℕ) (o : Option (Active T)) → active_under table id ≡ o → (seen (slot_take_out table id (unheld o)) ≡ take_out (table_of table) id (unheld o)) × IsSound (slot_take_out table id (unheld o)).1
    unfolding IsSound
    taken_out id None is = (refl, sound)
    taken_out id (Some a) is =
        let gone = take_away table id sound a (active_slot id a is) in
        elim (nat_lt 0 a.holds) as (λ b. (seen (slot_take_out table id (cond b (Err id_fault.ObjectInUse) (Ok a.object))) ≡ take_out (table_of table) id (cond b (Err id_fault.ObjectInUse) (Ok a.object))) × Sound (slot_take_out table id (cond b (Err id_fault.ObjectInUse) (Ok a.object))).1.slots) [
          | true ↦ (refl, sound)
          | false ↦ ((λ i. (Ok a.object, gone.0 i)), gone.1)
        ]

    pub remove_same : (id : ℕ) → seen (slot_remove table id) ≡ remove_step (table_of table) id
    remove_same id =
        (taken_out id (active_under table id) refl).0 ∙ ap (λ o. take_out (table_of table) id (unheld o)) (sym (active_seen table sound id))

    pub remove_sound : (id : ℕ) → IsSound (slot_remove table id).1
    remove_sound id = (taken_out id (active_under table id) refl).1

    put_both : (id : ℕ) (object : T) (o : Option (Active T)) → active_under table id ≡ o → (table_of (slot_replaced table id object o) ≡ replaced (table_of table) id object o) × IsSound (slot_replaced table id object o)
    unfolding IsSound
    put_both id object None is = (refl, sound)
    put_both id object (Some a) is = rewrite table id sound a a.holds object (active_slot id a is)

    pub put_same : (id : ℕ) (object : T) → table_of (slot_put table id object) ≡ with_object (table_of table) id object
    put_same id object =
        (put_both id object (active_under table id) refl).0 ∙ ap (λ o. replaced (table_of table) id object o) (sym (active_seen table sound id))

    pub put_sound : (id : ℕ) (object : T) → IsSound (slot_put table id object)
    put_sound id object = (put_both id object (active_under table id) refl).1

free_find : {T E : Type 0} (pick : Slot T → Option E) → pick slot.Free ≡ None → (n : ℕ) → entries_in pick (replicate n slot.Free) ≡ []
free_find pick none zero = refl
free_find pick none (suc n) = rw (none, free_find pick none n) refl

free_placed : {T X : Type 0} (home : ℕ → ℕ) (pick : Slot T → Option (ℕ × X)) → pick slot.Free ≡ None → (first n : ℕ) → Placed home pick first (replicate n slot.Free)
free_placed home pick none first zero = tt
free_placed home pick none first (suc n) = ((rw none tt), free_placed home pick none (suc first) n)

no_free_name : (T : Type 0) (name : List ℕ) (n : ℕ) → list_any (has_name {T = T} name) (replicate n slot.Free) ≡ false
no_free_name T name zero = refl
no_free_name T name (suc n) = no_free_name T name n

free_named : (T : Type 0) (name : List ℕ) (n : ℕ) → AtMostOne (has_name {T = T} name) (replicate n slot.Free)
free_named T name zero = tt
free_named T name (suc n) = (λ e. no_free_name T name n, free_named T name n)

module _ (T : Type 0) (kind capacity : ℕ) where
  -- slots that are all free
  abbrev pub all_free : SlotsState T
  all_free = record { kind = kind; slots = replicate capacity slot.Free; last = 0; wraps = 0 }

  pub opening_same : table_of all_free ≡ opening kind capacity
  unfolding active_map reserved_map
  opening_same =
      let count : length all_free.slots ≡ capacity = length-replicate capacity slot.Free in
      let none : entries_in active_entry all_free.slots ≡ [] = free_find active_entry refl capacity in
      let none_reserved : entries_in reserved_entry all_free.slots ≡ [] = free_find reserved_entry refl capacity in
      λ i. record {
        kind = kind;
        capacity = count i;
        active = map.from_entries (none i);
        reserved = map.from_entries (none_reserved i);
        last = 0;
        wraps = 0;
      }

  pub opening_sound : 1 ≤ capacity → IsSound all_free
  unfolding IsSound
  opening_sound some = record {
    some = rw length-replicate some;
    active = free_placed _ active_entry refl 0 capacity;
    reserved = free_placed _ reserved_entry refl 0 capacity;
    named = λ name. free_named T name capacity;
  }

-- an active identifier names its object
pub looked_up_some : {T : Type 0} (o : Option (Active T)) (v : T) → is_some o ≡ true → IfSome o (λ a. a.object ≡ v) → looked_up o ≡ Ok v
looked_up_some None v some is = absurd (false≢true some)
looked_up_some (Some a) v some is = ap Ok is

-- one that is not active names none
pub looked_up_none : {T : Type 0} (o : Option (Active T)) → is_some o ≡ false → looked_up o ≡ Err id_fault.InvalidId
looked_up_none None none = refl
looked_up_none (Some a) none = cc

-- what a reservation gives is reserved, by another name
pub gives_as : {T : Type 0} {p q : Result Reserved ReserveFault × TableState T} → p ≡ q → IfOk q.0 (λ token. map.get q.1.reserved token.id ≡ Some token.name) → IfOk p.0 (λ token. map.get p.1.reserved token.id ≡ Some token.name)
gives_as e given = rw e given

-- what reserving gives is reserved
issue_gives : {T : Type 0} (table : TableState T) (name : Option (List ℕ)) (o : Option Place) → IfOk (issue table name o).0 (λ token. map.get (issue table name o).1.reserved token.id ≡ Some token.name)
issue_gives table name None = tt
issue_gives table name (Some place) = grind (arith, map.gets, nat_tests)

pub reserve_gives : {T : Type 0} (table : TableState T) (name : Option (List ℕ)) → IfOk (reserve_step table name).0 (λ token. map.get (reserve_step table name).1.reserved token.id ≡ Some token.name)
reserve_gives table name =
    elim (is_name_taken table name) as (λ b. IfOk (cond b (Err reserve_fault.NameTaken, table) (issue table name (next_place table))).0 (λ token. map.get (cond b (Err reserve_fault.NameTaken, table) (issue table name (next_place table))).1.reserved token.id ≡ Some token.name)) [
      | true ↦ tt
      | false ↦ issue_gives table name (next_place table)
    ]
