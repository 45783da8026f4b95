-- Open waits stand on active identifiers, whatever becomes of the others.
use Rattle.std.proofs.Common.{◌≡◌, ◌+◌, ◌==◌, ℕ, Bool, true, false, cond, List, [], ◌∷◌, is_some, refl, sym, ap, ◌∙◌, arith}
use Rattle.std.specs.List.{list_any, AllByRecursion}
use Rattle.std.proofs.lemmas.Bool.{or_parts, or_from, both_ways}
use Rattle.osal_object.specs.declared.waits.WaitRecord.{WaitRecord}
use Rattle.osal_idtable.specs.Table.{TableState, active_at}
use Rattle.osal_object.specs.Waits.{stands_on, count_on}
use Rattle.osal_object.specs.Moves.{AreApart}
use Rattle.osal_idtable.proofs.Keyed.{apart}
use Rattle.osal_idtable.proofs.Placed.{itself}
use Rattle.osal_object.proofs.Activity.{Grows}

no_share : (b : Bool) (n : ℕ) → cond b 1 0 + n ≡ 0 → (b ≡ false) × (n ≡ 0)
no_share true n none = absurd (omega arith)
no_share false n none = (refl, omega arith)

module _ {T : Type 0} where
  -- identifiers that are active and apart stay so where more become active
  pub apart_grown : (old new : TableState T) → Grows old new → (ids : List ℕ) → AreApart old ids → AreApart new ids
  apart_grown old new grows [] are = tt
  apart_grown old new grows (id ∷ ids) are = (grows id are.0, are.1, apart_grown old new grows ids are.2)

  inactive_apart : (table : TableState T) (q : ℕ) → is_some (active_at table q) ≡ false → (ids : List ℕ) → AreApart table ids → list_any (λ on. on == q) ids ≡ false
  inactive_apart table q none [] are = refl
  inactive_apart table q none (id ∷ ids) are =
      or_from (id == q) (list_any (λ on. on == q) ids)
      (apart id q (λ same. both_ways (is_some (active_at table q)) none (ap (λ k. is_some (active_at table k)) (sym same) ∙ are.0)))
      (inactive_apart table q none ids are.2)

  -- the second table has what the first has, at least without one identifier
  abbrev pub KeepsBut : ℕ → TableState T → TableState T → Type 0
  KeepsBut id old new = (q : ℕ) → (q ≡ id → ⊥) → is_some (active_at old q) ≡ true → is_some (active_at new q) ≡ true

  apart_without : (old new : TableState T) (id : ℕ) → KeepsBut id old new → (ids : List ℕ) → list_any (λ on. on == id) ids ≡ false → AreApart old ids → AreApart new ids
  apart_without old new id keeps [] none are = tt
  apart_without old new id keeps (on ∷ ids) none are =
      let parts = or_parts (on == id) (list_any (λ on. on == id) ids) none in (
        keeps on (λ same. both_ways (on == id) parts.0 (ap (λ k. k == id) same ∙ itself id)) are.0,
        are.1,
        apart_without old new id keeps ids parts.1 are.2,
      )

module _ {T W : Type 0} where
  -- each of the waits stands on active identifiers, on each once
  abbrev pub AllStand : TableState T → List (WaitRecord W) → Type 0
  AllStand table waits = AllByRecursion (λ (wait : WaitRecord W). AreApart table wait.on) waits

  -- waits still stand on active identifiers where more become active
  pub stand_grown : (old new : TableState T) → Grows old new → (waits : List (WaitRecord W)) → AllStand old waits → AllStand new waits
  stand_grown old new grows [] all = tt
  stand_grown old new grows (wait ∷ waits) all =
      (apart_grown old new grows wait.on all.0, stand_grown old new grows waits all.1)

  -- waits still stand on active identifiers without one on which none stands
  pub stand_without : (old new : TableState T) (id : ℕ) → KeepsBut id old new → (waits : List (WaitRecord W)) → count_on id waits ≡ 0 → AllStand old waits → AllStand new waits
  stand_without old new id keeps [] none all = tt
  stand_without old new id keeps (wait ∷ waits) none all =
      let parts = no_share (stands_on id wait) (count_on id waits) none in
      (apart_without old new id keeps wait.on parts.0 all.0, stand_without old new id keeps waits parts.1 all.1)

  -- no wait stands on an identifier that is not active
  pub none_stand : (table : TableState T) (q : ℕ) → is_some (active_at table q) ≡ false → (waits : List (WaitRecord W)) → AllStand table waits → count_on q waits ≡ 0
  none_stand table q none [] all = refl
  none_stand table q none (wait ∷ waits) all =
      let here : stands_on q wait ≡ false = inactive_apart table q none wait.on all.0 in
      let rest = none_stand table q none waits all.1 in
      ap (λ b. cond b 1 0 + count_on q waits) here ∙ (omega arith)
