-- A table stays well formed.
use Rattle.std.proofs.Common.{◌≡◌, ◌<◌, ◌≤◌, ◌⊎◌, ◌+◌, ◌-◌, ◌==◌, ℕ, zero, suc, Bool, true, false, not, cond, eqb, find, List, [], ◌∷◌, nat_lt, Option, Some, None, Result, Ok, Err, refl, sym, ap, subst, ◌∙◌, inl, inr, arith}
use Rattle.std.specs.List.{list_any}
use Rattle.std.specs.Ordering.{nat_cmp, eq_by_cmp}
use Rattle.std.specs.Cmp.{nat_cmp_total}
use Rattle.std.specs.FinMap as map
use Rattle.std.specs.Str.{bytes_eq}
use Rattle.std.proofs.lemmas.Bool.{cases_eq, or_parts, false≢true, cond_both}
use Rattle.std.proofs.lemmas.Bool.Decides.{nat_tests}
use Rattle.std.proofs.lemmas.Slice.Eq.{bytes_eq-Decides}
use Rattle.osal_base.specs.Identifier.{compose, type_of, slot_of}
use Rattle.osal_base.specs.Limits.{IsCapacity}
use Rattle.osal_idtable.specs.declared.place.Place.{Place}
use Rattle.osal_idtable.specs.declared.table.IdFault.{IdFault}
use Rattle.osal_idtable.specs.declared.table.ReserveFault.{ReserveFault}
use Rattle.osal_idtable.specs.Table.{Active, TableState, Reserved, opening, active_at, is_named, is_name_taken, is_slot_taken, replaced, hold_limit}
use Rattle.osal_idtable.specs.Next.{after, candidates, place_of, next_place, id_at_place, is_free_at}
use Rattle.osal_idtable.specs.Steps.{issue, reserve_step, settle, take_out, unheld, claimed}
use Rattle.osal_idtable.specs.Holds.{held, released}
use Rattle.osal_idtable.specs.Laws.{Call, Reserve, Finalize, Put, Remove, Claim, Hold, Release, called}
use Rattle.osal_idtable.specs.WellFormed.{known_as, name_at, IsWellFormed, StaysWellFormed}
use Rattle.osal_idtable.proofs.Keyed.{ties, apart}
use Rattle.osal_idtable.proofs.Placed.{itself}
use Rattle.osal_idtable.proofs.Holding.{either}
use Rattle.osal_idtable.proofs.Steps.{find_passes}

module _ {X : Type 0} (m : map.FinMap nat_cmp X) (id : ℕ) where
  pub put_here : (v : X) → map.get (map.insert m id v) id ≡ Some v
  put_here v = map.get-insert nat_cmp_total m id v id ∙ ap (λ b. cond b (Some v) (map.get m id)) (ties id id ∙ itself id)

  pub put_there : (v : X) (q : ℕ) → (q ≡ id → ⊥) → map.get (map.insert m id v) q ≡ map.get m q
  put_there v q ne = map.get-insert nat_cmp_total m id v q ∙ ap (λ b. cond b (Some v) (map.get m q)) (ties q id ∙ apart q id ne)

  pub gone_here : map.get (map.remove m id) id ≡ None
  gone_here = map.get-remove nat_cmp_total m id id ∙ ap (λ b. cond b None (map.get m id)) (ties id id ∙ itself id)

  pub gone_there : (q : ℕ) → (q ≡ id → ⊥) → map.get (map.remove m id) q ≡ map.get m q
  gone_there q ne = map.get-remove nat_cmp_total m id q ∙ ap (λ b. cond b None (map.get m q)) (ties q id ∙ apart q id ne)

  pub less_removed : (q : ℕ) (v : X) → map.get (map.remove m id) q ≡ Some v → map.get m q ≡ Some v
  less_removed q v is =
      elim (cases_eq q id) [
        | inl same ↦ let none : map.get (map.remove m id) q ≡ None = ap (map.get (map.remove m id)) same ∙ gone_here in cc
        | inr ne ↦ sym (gone_there q ne) ∙ is
      ]

  pub still_none : (q : ℕ) → map.get m q ≡ None → map.get (map.remove m id) q ≡ None
  still_none q is =
      elim (cases_eq q id) [
        | inl same ↦ ap (map.get (map.remove m id)) same ∙ gone_here
        | inr ne ↦ gone_there q ne ∙ is
      ]

none_active : {T : Type 0} (o : Option (Active T)) (r : Option (Option (List ℕ))) (name : Option (List ℕ)) → ((a : Active T) → o ≡ Some a → r ≡ None) → r ≡ Some name → o ≡ None
none_active None r name split is = refl
none_active (Some a) r name split is = let none = split a refl in cc

known_less : {T : Type 0} (o : Option (Active T)) (old new : Option (Option (List ℕ))) (name : Option (List ℕ)) → (new ≡ Some name → old ≡ Some name) → known_as o new ≡ Some name → known_as o old ≡ Some name
known_less None old new name less is = less is
known_less (Some a) old new name less is = is

module _ {T : Type 0} (table : TableState T) (good : IsWellFormed table) where
  -- a table with the same names or fewer
  narrowed : (active : map.FinMap nat_cmp (Active T)) (reserved : map.FinMap nat_cmp (Option (List ℕ))) → ((id : ℕ) (name : Option (List ℕ)) → known_as (map.get active id) (map.get reserved id) ≡ Some name → name_at table id ≡ Some name) → ((id : ℕ) (a : Active T) → map.get active id ≡ Some a → map.get reserved id ≡ None) → ((id : ℕ) (a : Active T) → map.get active id ≡ Some a → a.holds ≤ hold_limit) → IsWellFormed (record table { active = active; reserved = reserved })
  narrowed active reserved names split few = record {
    room = good.room;
    typed = λ id name is. good.typed id name (names id name is);
    one_slot = λ id other name another is also same. good.one_slot id other name another (names id name is) (names other another also) same;
    one_name = λ id other name is also. good.one_name id other name (names id (Some name) is) (names other (Some name) also);
    apart = split;
    few_holds = few;
  }

  give_up_good : (id : ℕ) → IsWellFormed (record table { reserved = map.remove table.reserved id })
  give_up_good id =
      narrowed table.active (map.remove table.reserved id)
      (λ q name is. known_less (map.get table.active q) (map.get table.reserved q) (map.get (map.remove table.reserved id) q) name (less_removed table.reserved id q name) is)
      (λ q a is. still_none table.reserved id q (good.apart q a is))
      good.few_holds

  take_names : (id q : ℕ) (name : Option (List ℕ)) → known_as (map.get (map.remove table.active id) q) (map.get table.reserved q) ≡ Some name → name_at table q ≡ Some name
  take_names id q name is =
      elim (cases_eq q id) [
        | inl same ↦
            let none : map.get (map.remove table.active id) q ≡ None = ap (map.get (map.remove table.active id)) same ∙ gone_here table.active id in
            let reserved : map.get table.reserved q ≡ Some name = rw none at is in
            rw (none_active (map.get table.active q) (map.get table.reserved q) name (good.apart q) reserved) reserved
        | inr ne ↦ rw (gone_there table.active id q ne) at is
      ]

  take_good : (id : ℕ) → IsWellFormed (record table { active = map.remove table.active id })
  take_good id =
      narrowed (map.remove table.active id) table.reserved (take_names id)
      (λ q a is. good.apart q a (less_removed table.active id q a is))
      (λ q a is. good.few_holds q a (less_removed table.active id q a is))

  module _ (id : ℕ) (a : Active T) (is : active_at table id ≡ Some a) where
    rewrite_good : (b : Active T) → b.name ≡ a.name → b.holds ≤ hold_limit → IsWellFormed (record table { active = map.insert table.active id b })
    rewrite_good b named few =
        narrowed (map.insert table.active id b) table.reserved
        (λ q name e. elim (cases_eq q id) [
          | inl same ↦
              let here : map.get (map.insert table.active id b) q ≡ Some b = ap (map.get (map.insert table.active id b)) same ∙ put_here table.active id b in
              let told : Some b.name ≡ Some name = rw here at e in
              rw (same, is) (ap Some (sym named) ∙ told)
          | inr ne ↦ rw (put_there table.active id b q ne) at e
        ])
        (λ q x e. elim (cases_eq q id) [
          | inl same ↦ ap (map.get table.reserved) same ∙ good.apart id a is
          | inr ne ↦ good.apart q x (sym (put_there table.active id b q ne) ∙ e)
        ])
        (λ q x e. elim (cases_eq q id) [
          | inl same ↦
              let here : map.get (map.insert table.active id b) q ≡ Some b = ap (map.get (map.insert table.active id b)) same ∙ put_here table.active id b in
              let found : b ≡ x = cc in rw found at few
          | inr ne ↦ good.few_holds q x (sym (put_there table.active id b q ne) ∙ e)
        ])

    claim_good : IsWellFormed (record table { active = map.remove table.active id; reserved = map.insert table.reserved id a.name })
    claim_good =
        narrowed (map.remove table.active id) (map.insert table.reserved id a.name)
        (λ q name e. elim (cases_eq q id) [
          | inl same ↦
              let none : map.get (map.remove table.active id) q ≡ None = ap (map.get (map.remove table.active id)) same ∙ gone_here table.active id in
              let here : map.get (map.insert table.reserved id a.name) q ≡ Some a.name = ap (map.get (map.insert table.reserved id a.name)) same ∙ put_here table.reserved id a.name in
              let told : Some a.name ≡ Some name = rw (none, here) at e in
              rw (same, is) told
          | inr ne ↦ rw (gone_there table.active id q ne, put_there table.reserved id a.name q ne) at e
        ])
        (λ q x e. elim (cases_eq q id) [
          | inl same ↦
              let none : map.get (map.remove table.active id) q ≡ None = ap (map.get (map.remove table.active id)) same ∙ gone_here table.active id in cc
          | inr ne ↦ put_there table.reserved id a.name q ne ∙ good.apart q x (sym (gone_there table.active id q ne) ∙ e)
        ])
        (λ q x e. good.few_holds q x (less_removed table.active id q x e))

  settle_good : (id : ℕ) (name : Option (List ℕ)) (object : T) → map.get table.reserved id ≡ Some name → IsWellFormed (record table { reserved = map.remove table.reserved id; active = map.insert table.active id (record { name = name; holds = 0; object = object }) })
  settle_good id name object is =
      let v : Active T = record { name = name; holds = 0; object = object } in
      let none = none_active (map.get table.active id) (map.get table.reserved id) name (good.apart id) is in
      narrowed (map.insert table.active id v) (map.remove table.reserved id)
      (λ q n e. elim (cases_eq q id) [
        | inl same ↦
            let here : map.get (map.insert table.active id v) q ≡ Some v = ap (map.get (map.insert table.active id v)) same ∙ put_here table.active id v in
            let told : Some name ≡ Some n = rw here at e in
            rw (same, none, is) told
        | inr ne ↦ rw (put_there table.active id v q ne, gone_there table.reserved id q ne) at e
      ])
      (λ q x e. elim (cases_eq q id) [
        | inl same ↦ ap (map.get (map.remove table.reserved id)) same ∙ gone_here table.reserved id
        | inr ne ↦ gone_there table.reserved id q ne ∙ good.apart q x (sym (put_there table.active id v q ne) ∙ e)
      ])
      (λ q x e. elim (cases_eq q id) [
        | inl same ↦
            let here : map.get (map.insert table.active id v) q ≡ Some v = ap (map.get (map.insert table.active id v)) same ∙ put_here table.active id v in
            let found : v ≡ x = cc in
            let no_holds : 0 ≤ hold_limit = omega arith in subst (λ (y : Active T). y.holds ≤ hold_limit) found no_holds
        | inr ne ↦ good.few_holds q x (sym (put_there table.active id v q ne) ∙ e)
      ])

  settled_good : (id : ℕ) (o : Option (Option (List ℕ))) (value : Option T) → map.get table.reserved id ≡ o → IsWellFormed (settle table id o value)
  settled_good id None value is = good
  settled_good id (Some name) None is = give_up_good id
  settled_good id (Some name) (Some object) is = settle_good id name object is

  put_good : (id : ℕ) (object : T) (o : Option (Active T)) → active_at table id ≡ o → IsWellFormed (replaced table id object o)
  put_good id object None is = good
  put_good id object (Some a) is = rewrite_good id a is (record a { object = object }) refl (good.few_holds id a is)

  taken_good : (id : ℕ) (r : Result T IdFault) → IsWellFormed (take_out table id r).1
  taken_good id (Err fault) = good
  taken_good id (Ok object) = take_good id

  claimed_good : (id : ℕ) (o : Option (Active T)) → active_at table id ≡ o → IsWellFormed (claimed table id o).1
  claimed_good id None is = good
  claimed_good id (Some a) is =
      either (λ (p : Result (Reserved × T) IdFault × TableState T). IsWellFormed p.1) (nat_lt 0 a.holds) _ _ good (claim_good id a is)

  held_good : (id : ℕ) (o : Option (Active T)) → active_at table id ≡ o → IsWellFormed (held table id o).1
  held_good id None is = good
  held_good id (Some a) is =
      cond_both (nat_lt a.holds hold_limit) _ _ (λ (p : Result (Unit {0}) IdFault × TableState T). IsWellFormed p.1)
      (λ t. rewrite_good id a is (record a { holds = a.holds + 1 }) refl (grind (arith, nat_tests)))
      (λ t. good)

  released_good : (id : ℕ) (o : Option (Active T)) → active_at table id ≡ o → IsWellFormed (released table id o).1
  released_good id None is = good
  released_good id (Some a) is =
      let few = good.few_holds id a is in
      either (λ (p : Result (Unit {0}) IdFault × TableState T). IsWellFormed p.1) (nat_lt 0 a.holds) _ _ (rewrite_good id a is (record a { holds = a.holds - 1 }) refl (omega arith)) good

not_in : {X : Type 0} (test : ℕ × X → Bool) (q : ℕ) (v : X) (es : List (ℕ × X)) → list_any test es ≡ false → map.find nat_cmp q es ≡ Some v → test (q, v) ≡ false
not_in test q v [] none is = cc
not_in test q v (e ∷ es) none is =
    let parts = or_parts (test e) (list_any test es) none in
    elim (cases_eq q e.0) [
      | inl same ↦
          let here : eq_by_cmp nat_cmp q e.0 ≡ true = ties q e.0 ∙ ap (λ k. eqb k e.0) same ∙ itself e.0 in
          let told : Some e.1 ≡ Some v = rw here at is in
          let value : v ≡ e.1 = cc in
          ap test (λ i. (same i, value i)) ∙ parts.0
      | inr ne ↦
          let other : eq_by_cmp nat_cmp q e.0 ≡ false = ties q e.0 ∙ apart q e.0 ne in
          not_in test q v es parts.1 (rw other at is)
    ]

not_held : {X : Type 0} (m : map.FinMap nat_cmp X) (test : ℕ × X → Bool) (q : ℕ) (v : X) → list_any test (map.entries m) ≡ false → map.get m q ≡ Some v → test (q, v) ≡ false
not_held m test q v none is = not_in test q v (map.entries m) none (sym (map.get-entries m q) ∙ is)

clash : (b : Bool) → b ≡ true → b ≡ false → ⊥
clash b t f = cc

not_true : (b : Bool) → not b ≡ true → b ≡ false
not_true true e = absurd (false≢true e)
not_true false e = refl

after_small : (capacity : ℕ) (place : Place) → IsCapacity capacity → (after capacity place).serial < 65536
after_small capacity place room =
    cond_both (nat_lt (place.serial + 1) 65535) _ _ (λ (p : Place). p.serial < 65536) (λ t. grind (arith, nat_tests)) (λ t. omega arith)

-- a place that is found has a serial of 16 bits
pub small : (free : Place → Bool) (capacity n : ℕ) (place found : Place) → IsCapacity capacity → find free (candidates capacity n place) ≡ Some found → found.serial < 65536
small free capacity zero place found room is = cc
small free capacity (suc n) place found room is =
    let next = after_small capacity place room in
    elim (free (after capacity place)) as (λ b. cond b (Some (after capacity place)) (find free (candidates capacity n (after capacity place))) ≡ Some found → found.serial < 65536) [
      | true ↦ λ e. let same : after capacity place ≡ found = cc in rw same at next
      | false ↦ λ e. small free capacity n (after capacity place) found room e
    ] is

type_is : (kind serial : ℕ) → serial < 65536 → type_of (compose kind serial) ≡ kind
type_is kind serial below = omega arith

-- an identifier of the table has a slot that is taken
pub missed : {T : Type 0} (table : TableState T) (q at : ℕ) (n : Option (List ℕ)) (o : Option (Active T)) → is_slot_taken table at ≡ false → active_at table q ≡ o → known_as o (map.get table.reserved q) ≡ Some n → eqb (slot_of q table.capacity) at ≡ false
missed table q at n None vacant is known =
    let parts = or_parts (list_any (λ e. slot_of e.0 table.capacity == at) (map.entries table.active)) (list_any (λ e. slot_of e.0 table.capacity == at) (map.entries table.reserved)) vacant in
    not_held table.reserved (λ e. slot_of e.0 table.capacity == at) q n parts.1 known
missed table q at n (Some a) vacant is known =
    let parts = or_parts (list_any (λ e. slot_of e.0 table.capacity == at) (map.entries table.active)) (list_any (λ e. slot_of e.0 table.capacity == at) (map.entries table.reserved)) vacant in
    not_held table.active (λ e. slot_of e.0 table.capacity == at) q a parts.0 is

-- an identifier of the table has a name that is taken
unnamed : {T : Type 0} (table : TableState T) (q : ℕ) (word : List ℕ) (o : Option (Active T)) → is_name_taken table (Some word) ≡ false → active_at table q ≡ o → known_as o (map.get table.reserved q) ≡ Some (Some word) → ⊥
unnamed table q word None unused is known =
    let parts = or_parts (list_any (λ e. is_named e.1.name word) (map.entries table.active)) (list_any (λ e. is_named e.1 word) (map.entries table.reserved)) unused in
    clash (bytes_eq word word) ((bytes_eq-Decides word word).1 refl) (not_held table.reserved (λ e. is_named e.1 word) q (Some word) parts.1 known)
unnamed table q word (Some a) unused is known =
    let parts = or_parts (list_any (λ e. is_named e.1.name word) (map.entries table.active)) (list_any (λ e. is_named e.1 word) (map.entries table.reserved)) unused in
    let named : a.name ≡ Some word = cc in
    clash (bytes_eq word word) ((bytes_eq-Decides word word).1 refl) (ap (λ n. is_named n word) (sym named) ∙ not_held table.active (λ e. is_named e.1.name word) q a parts.0 is)

module _ {T : Type 0} (table : TableState T) (good : IsWellFormed table) (name : Option (List ℕ)) (id : ℕ) (typed : type_of id ≡ table.kind) (vacant : is_slot_taken table (slot_of id table.capacity) ≡ false) (unused : is_name_taken table name ≡ false) where
  alone : (q : ℕ) (n : Option (List ℕ)) → name_at table q ≡ Some n → slot_of q table.capacity ≡ slot_of id table.capacity → ⊥
  alone q n known same =
      clash (eqb (slot_of q table.capacity) (slot_of id table.capacity)) (ap (λ k. eqb k (slot_of id table.capacity)) same ∙ itself (slot_of id table.capacity)) (missed table q (slot_of id table.capacity) n (active_at table q) vacant refl known)

  names_by : (q : ℕ) (n : Option (List ℕ)) (o : Option (Active T)) → active_at table q ≡ o → known_as o (map.get (map.insert table.reserved id name) q) ≡ Some n → ((q ≡ id) × (n ≡ name)) ⊎ (name_at table q ≡ Some n)
  names_by q n (Some a) is e = inr (rw is e)
  names_by q n None is e =
      elim (cases_eq q id) [
        | inl same ↦
            let here : map.get (map.insert table.reserved id name) q ≡ Some name = ap (map.get (map.insert table.reserved id name)) same ∙ put_here table.reserved id name in
            let told : Some name ≡ Some n = rw here at e in
            let value : n ≡ name = cc in inl (same, value)
        | inr ne ↦ let old : map.get table.reserved q ≡ Some n = sym (put_there table.reserved id name q ne) ∙ e in inr (rw is old)
      ]

  no_word : (q : ℕ) (word : List ℕ) → Some word ≡ name → name_at table q ≡ Some (Some word) → ⊥
  no_word q word is known =
      unnamed table q word (active_at table q) (ap (is_name_taken table) is ∙ unused) refl known

  reserved_good : (last wraps : ℕ) → IsWellFormed (record table { reserved = map.insert table.reserved id name; last = last; wraps = wraps })
  reserved_good last wraps = record {
    room = good.room;
    typed = λ q n e. elim (names_by q n (active_at table q) refl e) [ inl new ↦ ap type_of new.0 ∙ typed | inr old ↦ good.typed q n old ];
    one_slot = λ q p m n e f same. elim (names_by q m (active_at table q) refl e) [
      | inl new ↦ elim (names_by p n (active_at table p) refl f) [
        | inl also ↦ new.0 ∙ sym also.0
        | inr old ↦ absurd (alone p n old (sym same ∙ ap (λ k. slot_of k table.capacity) new.0))
      ]
      | inr old ↦ elim (names_by p n (active_at table p) refl f) [
        | inl new ↦ absurd (alone q m old (same ∙ ap (λ k. slot_of k table.capacity) new.0))
        | inr also ↦ good.one_slot q p m n old also same
      ]
    ];
    one_name = λ q p word e f. elim (names_by q (Some word) (active_at table q) refl e) [
      | inl new ↦ elim (names_by p (Some word) (active_at table p) refl f) [
        | inl also ↦ new.0 ∙ sym also.0
        | inr old ↦ absurd (no_word p word new.1 old)
      ]
      | inr old ↦ elim (names_by p (Some word) (active_at table p) refl f) [
        | inl new ↦ absurd (no_word q word new.1 old)
        | inr also ↦ good.one_name q p word old also
      ]
    ];
    apart = λ q a is. elim (cases_eq q id) [
      | inl same ↦ absurd (alone q a.name (rw is refl) (ap (λ k. slot_of k table.capacity) same))
      | inr ne ↦ put_there table.reserved id name q ne ∙ good.apart q a is
    ];
    few_holds = good.few_holds;
  }

module _ {T : Type 0} (table : TableState T) (good : IsWellFormed table) where
  issued_good : (name : Option (List ℕ)) (o : Option Place) → next_place table ≡ o → is_name_taken table name ≡ false → IsWellFormed (issue table name o).1
  issued_good name None is unused = good
  issued_good name (Some place) is unused =
      reserved_good table good name (id_at_place table place) (type_is table.kind place.serial (small (is_free_at table) table.capacity table.capacity (place_of table) place good.room is)) (not_true _ (find_passes (is_free_at table) _ place is)) unused place.serial place.wraps

  reserve_good : (name : Option (List ℕ)) → IsWellFormed (reserve_step table name).1
  reserve_good name =
      cond_both (is_name_taken table name) _ _ (λ (p : Result Reserved ReserveFault × TableState T). IsWellFormed p.1) (λ t. good) (λ f. issued_good name (next_place table) refl f)

  called_good : (call : Call T) → IsWellFormed (called table call)
  called_good (Reserve name) = reserve_good name
  called_good (Finalize id value) = settled_good table good id (map.get table.reserved id) value refl
  called_good (Put id object) = put_good table good id object (active_at table id) refl
  called_good (Remove id) = taken_good table good id (unheld (active_at table id))
  called_good (Claim id) = claimed_good table good id (active_at table id) refl
  called_good (Hold id) = held_good table good id (active_at table id) refl
  called_good (Release id) = released_good table good id (active_at table id) refl

-- at the opening nothing is active
pub no_active : (T : Type 0) (kind capacity id : ℕ) (a : Active T) → active_at (opening kind capacity) id ≡ Some a → ⊥
no_active T kind capacity id a is = let none : None ≡ Some a = sym (map.get-empty nat_cmp id) ∙ is in cc

no_names : (T : Type 0) (kind capacity id : ℕ) (n : Option (List ℕ)) → name_at (opening {T = T} kind capacity) id ≡ Some n → ⊥
no_names T kind capacity id n is =
    let none : None ≡ Some n = sym (map.get-empty nat_cmp id) ∙ ap (λ (o : Option (Active T)). known_as o (map.get (map.empty {X = Option (List ℕ)} {R = nat_cmp}) id)) (sym (map.get-empty nat_cmp id)) ∙ is in cc

-- a table stays well formed
pub stays_well_formed : (T : Type 0) → StaysWellFormed T
stays_well_formed T = (
  λ kind capacity room. record {
    room = room;
    typed = λ id n is. absurd (no_names T kind capacity id n is);
    one_slot = λ id other n m is also same. absurd (no_names T kind capacity id n is);
    one_name = λ id other word is also. absurd (no_names T kind capacity id (Some word) is);
    apart = λ id a is. absurd (no_active T kind capacity id a is);
    few_holds = λ id a is. absurd (no_active T kind capacity id a is);
  },
  λ table call good. called_good table good call,
)
