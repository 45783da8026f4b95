-- What each of some objects is held, after one hold more or less of each.
use Rattle.std.proofs.Common.{◌≡◌, ◌<◌, ◌+◌, ◌-◌, ◌==◌, ℕ, true, false, cond, List, [], ◌∷◌, Option, Some, None, is_some, refl, sym, ap, ◌∙◌, inl, inr, arith}
use Rattle.std.specs.List.{list_any}
use Rattle.std.specs.FinMap as map
use Rattle.std.proofs.lemmas.Bool.{cases_eq, or_right, or_left, both_ways}
use Rattle.osal_idtable.specs.Table.{Active, TableState, active_at, with_active, replaced, hold_limit}
use Rattle.osal_idtable.specs.Holds.{hold_step, release_step}
use Rattle.osal_object.specs.Waiting.{hold_each, release_each}
use Rattle.osal_object.specs.Moves.{AreApart}
use Rattle.osal_idtable.proofs.Keyed.{apart}
use Rattle.osal_idtable.proofs.Placed.{itself}
use Rattle.osal_idtable.proofs.WellFormed.{put_here, put_there}
use Rattle.osal_object.proofs.ByCalls.{hold_taken, release_taken}
use Rattle.osal_object.proofs.Activity.{hold_alike, release_alike}
use Rattle.osal_object.proofs.Apart.{apart_grown}

-- one for an identifier that is among these, else none
abbrev pub among : ℕ → List ℕ → ℕ
among q ids = cond (list_any (λ on. on == q) ids) 1 0

-- what is there
pub there : {A : Type 0} (o : Option A) → is_some o ≡ true → (x : A) × (o ≡ Some x)
there None some = absurd (both_ways false refl some)
there (Some x) some = (x, refl)

-- no more than one thing is there
pub one_there : {A : Type 0} (o : Option A) (x y : A) → o ≡ Some x → o ≡ Some y → x ≡ y
one_there o x y is also = let found : Some x ≡ Some y = sym is ∙ also in cc

once_among : (q id : ℕ) (ids : List ℕ) → list_any (λ on. on == id) ids ≡ false → among q (id ∷ ids) ≡ among q (id ∷ []) + among q ids
once_among q id ids alone =
    elim (cases_eq id q) [
      | inl same ↦
          let here : (id == q) ≡ true = ap (λ k. k == q) same ∙ itself q in
          let none : list_any (λ on. on == q) ids ≡ false = ap (λ k. list_any (λ on. on == k) ids) (sym same) ∙ alone in
          rw (here, none) refl
      | inr ne ↦ rw (apart id q ne) (omega arith)
    ]

module _ {T : Type 0} where
  -- a write puts what it writes under its identifier
  pub write_here : (table : TableState T) (id q : ℕ) (v c : Active T) → id ≡ q → active_at (with_active table id v) q ≡ Some c → v ≡ c
  write_here table id q v c same is =
      one_there (active_at (with_active table id v) q) v c (ap (map.get (map.insert table.active id v)) (sym same) ∙ put_here table.active id v) is

  -- a write leaves what stands under the other identifiers
  pub write_there : (table : TableState T) (id q : ℕ) (v a c : Active T) → (id ≡ q → ⊥) → active_at table q ≡ Some a → active_at (with_active table id v) q ≡ Some c → a ≡ c
  write_there table id q v a c ne is was =
      one_there (active_at table q) a c is (sym (put_there table.active id v q (λ e. ne (sym e))) ∙ was)

  same_active : (table : TableState T) (id q : ℕ) (a b : Active T) → id ≡ q → active_at table id ≡ Some a → active_at table q ≡ Some b → a ≡ b
  same_active table id q a b same is also =
      one_there (active_at table id) a b is (ap (active_at table) same ∙ also)

  one_more : (table : TableState T) (id : ℕ) (a : Active T) → active_at table id ≡ Some a → a.holds < hold_limit → (q : ℕ) (b c : Active T) → active_at table q ≡ Some b → active_at (hold_step table id).1 q ≡ Some c → c.holds ≡ b.holds + among q (id ∷ [])
  one_more table id a is below q b c was now =
      let written = ap (λ t. active_at t q) (sym (hold_taken table id a is below)) ∙ now in
      elim (cases_eq id q) [
        | inl same ↦
            let new = write_here table id q (record a { holds = a.holds + 1 }) c same written in
            let old = same_active table id q a b same is was in
            let here : (id == q) ≡ true = ap (λ k. k == q) same ∙ itself q in
            rw here (ap (λ (x : Active T). x.holds) (sym new) ∙ ap (λ (x : Active T). x.holds + 1) old)
        | inr ne ↦
            let kept = write_there table id q (record a { holds = a.holds + 1 }) b c ne was written in
            let holds = ap (λ (x : Active T). x.holds) kept in
            rw (apart id q ne) (omega arith)
      ]

  one_less : (table : TableState T) (id : ℕ) (a : Active T) → active_at table id ≡ Some a → 0 < a.holds → (q : ℕ) (b c : Active T) → active_at table q ≡ Some b → active_at (release_step table id).1 q ≡ Some c → b.holds ≡ c.holds + among q (id ∷ [])
  one_less table id a is some q b c was now =
      let written = ap (λ t. active_at t q) (sym (release_taken table id a is some)) ∙ now in
      elim (cases_eq id q) [
        | inl same ↦
            let new = ap (λ (x : Active T). x.holds) (write_here table id q (record a { holds = a.holds - 1 }) c same written) in
            let old = ap (λ (x : Active T). x.holds) (same_active table id q a b same is was) in
            let here : (id == q) ≡ true = ap (λ k. k == q) same ∙ itself q in
            rw here (omega arith)
        | inr ne ↦
            let kept = write_there table id q (record a { holds = a.holds - 1 }) b c ne was written in
            let holds = ap (λ (x : Active T). x.holds) kept in
            rw (apart id q ne) (omega arith)
      ]

  -- each of these identifiers that is active has such a number of holds
  abbrev pub EachHas : (ℕ → Type 0) → TableState T → List ℕ → Type 0
  EachHas Has table ids =
      (q : ℕ) (a : Active T) → list_any (λ on. on == q) ids ≡ true → active_at table q ≡ Some a → Has a.holds

  others_have : (Has : ℕ → Type 0) (old new : TableState T) (id : ℕ) (ids : List ℕ) → list_any (λ on. on == id) ids ≡ false → ((q : ℕ) → (id ≡ q → ⊥) → active_at new q ≡ active_at old q) → EachHas Has old (id ∷ ids) → EachHas Has new ids
  others_have Has old new id ids alone kept each = λ q a is now.
      let ne : id ≡ q → ⊥ = λ same. both_ways (list_any (λ on. on == q) ids) (ap (λ k. list_any (λ on. on == k) ids) (sym same) ∙ alone) is in
      each q a (or_right (id == q) (list_any (λ on. on == q) ids) is) (sym (kept q ne) ∙ now)

  -- where each has room, each has one hold more
  pub holds_more : (table : TableState T) (ids : List ℕ) → AreApart table ids → EachHas (λ n. n < hold_limit) table ids → (q : ℕ) (a b : Active T) → active_at table q ≡ Some a → active_at (hold_each table ids) q ≡ Some b → b.holds ≡ a.holds + among q ids
  holds_more table [] are below q a b was now =
      let holds = ap (λ (x : Active T). x.holds) (one_there (active_at table q) a b was now) in omega arith
  holds_more table (id ∷ ids) are below q a b was now =
      let next = (hold_step table id).1 in
      let first = there (active_at table id) are.0 in
      let room : (first.0).holds < hold_limit = below id first.0 (or_left (id == id) (list_any (λ on. on == id) ids) (itself id)) first.1 in
      let taken = hold_taken table id first.0 first.1 room in
      let alike = hold_alike table id (active_at table id) refl in
      let between = there (active_at next q) (alike q ∙ ap is_some was) in
      let one = one_more table id first.0 first.1 room q a between.0 was between.1 in
      let kept : (p : ℕ) → (id ≡ p → ⊥) → active_at next p ≡ active_at table p = λ p ne. ap (λ t. active_at t p) taken ∙ put_there table.active id _ p (λ e. ne (sym e)) in
      let rest = holds_more next ids (apart_grown table next (λ p some. alike p ∙ some) ids are.2) (others_have (λ n. n < hold_limit) table next id ids are.1 kept below) q between.0 b between.1 now in
      let both = once_among q id ids are.1 in
      omega arith

  -- where each is held, each has one hold less
  pub holds_less : (table : TableState T) (ids : List ℕ) → AreApart table ids → EachHas (λ n. 0 < n) table ids → (q : ℕ) (a b : Active T) → active_at table q ≡ Some a → active_at (release_each table ids) q ≡ Some b → a.holds ≡ b.holds + among q ids
  holds_less table [] are some q a b was now =
      let holds = ap (λ (x : Active T). x.holds) (one_there (active_at table q) a b was now) in omega arith
  holds_less table (id ∷ ids) are some q a b was now =
      let next = (release_step table id).1 in
      let first = there (active_at table id) are.0 in
      let held : 0 < (first.0).holds = some id first.0 (or_left (id == id) (list_any (λ on. on == id) ids) (itself id)) first.1 in
      let taken = release_taken table id first.0 first.1 held in
      let alike = release_alike table id (active_at table id) refl in
      let between = there (active_at next q) (alike q ∙ ap is_some was) in
      let one = one_less table id first.0 first.1 held q a between.0 was between.1 in
      let kept : (p : ℕ) → (id ≡ p → ⊥) → active_at next p ≡ active_at table p = λ p ne. ap (λ t. active_at t p) taken ∙ put_there table.active id _ p (λ e. ne (sym e)) in
      let rest = holds_less next ids (apart_grown table next (λ p more. alike p ∙ more) ids are.2) (others_have (λ n. 0 < n) table next id ids are.1 kept some) q between.0 b between.1 now in
      let both = once_among q id ids are.1 in
      omega arith

  -- another object leaves the holds
  pub put_holds : (table : TableState T) (id : ℕ) (object : T) (o : Option (Active T)) → active_at table id ≡ o → (q : ℕ) (a b : Active T) → active_at table q ≡ Some a → active_at (replaced table id object o) q ≡ Some b → b.holds ≡ a.holds
  put_holds table id object None is q a b was now =
      ap (λ (x : Active T). x.holds) (sym (one_there (active_at table q) a b was now))
  put_holds table id object (Some old) is q a b was now =
      elim (cases_eq id q) [
        | inl same ↦
            ap (λ (x : Active T). x.holds) (sym (write_here table id q (record old { object = object }) b same now))
            ∙ ap (λ (x : Active T). x.holds) (same_active table id q old a same is was)
        | inr ne ↦ ap (λ (x : Active T). x.holds) (sym (write_there table id q (record old { object = object }) a b ne was now))
      ]
