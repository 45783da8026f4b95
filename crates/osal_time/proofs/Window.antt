-- A tick fires exactly the timers with an expiry in it, each once, and tells how many more they have there.
use Rattle.std.proofs.Common.{◌≡◌, ◌<◌, ◌≤◌, ◌+◌, ◌-◌, ◌==◌, ◌++◌, ◌↔◌, ℕ, true, false, List, [], ◌∷◌, map, nat_eq, Option, Some, None, refl, sym, ap, subst, ◌∙◌, inl, inr, arith}
use Rattle.std.specs.Cmp.{nat_eq_equiv}
use Rattle.std.specs.List.{AllByRecursion, Contains, IsDistinct}
use Rattle.std.proofs.lemmas.Bool.{cases_eq, cases_lt, cond_both, both_ways}
use Rattle.std.proofs.lemmas.Bool.Decides.{nat_tests}
use Rattle.std.proofs.lemmas.List.Elements.{Contains-append_left, Contains-append_right, Contains-append_cases, Contains-push, Contains-push_cases}
use Rattle.std.proofs.lemmas.Map.Views.{list_any-from_Contains}
use Rattle.osal_idtable.specs.Table.{Active, TableState, active_at}
use Rattle.osal_call.specs.Firing.{Firing}
use Rattle.osal_time.specs.declared.timer.Setting.{Setting}
use Rattle.osal_time.specs.declared.timer.Timer.{Timer}
use Rattle.osal_time.specs.Expiry.{expired_by, expiry, expiries_between}
use Rattle.osal_time.specs.Ticks.{firing_for, firing_of, firings}
use Rattle.osal_time.specs.Window.{IsWithin, AreSoMany, IsFiring, Fires, ExpiriesLieBetween, TicksFire}
use Rattle.osal_time.proofs.Counting.{counted}

module _ (setting : Setting) (from to : ℕ) where
  within_counted : (k : ℕ) → expired_by setting from ≤ k → k < expired_by setting from + (expired_by setting to - expired_by setting from) → IsWithin (Some setting) from to k
  within_counted k least most =
      let below : k < expired_by setting to = omega arith in
      let has = (counted setting to k).0 below in (
        has.0,
        elim (cases_lt from (expiry setting k)) [
          | inl above ↦ above
          | inr early ↦ let before : k < expired_by setting from = (counted setting from k).1 (has.0, early) in absurd (omega arith)
        ],
        has.1,
      )

  counted_within : (k : ℕ) → IsWithin (Some setting) from to k → (expired_by setting from ≤ k) × (k < expired_by setting from + (expired_by setting to - expired_by setting from))
  counted_within k has =
      let below : k < expired_by setting to = (counted setting to k).1 (has.0, has.2) in
      elim (cases_lt k (expired_by setting from)) [
        | inl before ↦ let early = (counted setting from k).0 before in let above = has.1 in absurd (omega (arith, early.1))
        | inr least ↦ (least, omega arith)
      ]

-- between two sums there are as many expiries as are counted
pub lie_between : ExpiriesLieBetween
lie_between None from to = record { first = 0; each = λ k. (λ within. absurd (omega (arith, within.1)), λ none. absurd none) }
lie_between (Some setting) from to = record {
  first = expired_by setting from;
  each = λ k. (λ within. within_counted setting from to k within.0 within.1, λ has. counted_within setting from to k has);
}

-- what holds of each of some elements and of each of others holds of each of both
all_both : {E : Type 0} (P : E → Type 0) (xs ys : List E) → AllByRecursion P xs → AllByRecursion P ys → AllByRecursion P (xs ++ ys)
all_both P [] ys all others = others
all_both P (x ∷ xs) ys all others = (all.0, all_both P xs ys all.1 others)

-- nothing stands in no list
none_in : (id : ℕ) → Contains [] id → ⊥
none_in id there = both_ways false refl (list_any-from_Contains nat_eq_equiv id [] there)

module _ (timers : TableState Timer) (from to : ℕ) where
  told_right : (timer : ℕ) (active : Active Timer) (n : ℕ) → active_at timers timer ≡ Some active → AreSoMany n (IsWithin active.object.setting from to) → AllByRecursion (IsFiring timers from to) (firing_for n timer active.object.handler)
  told_right timer active n there many =
      cond_both (n == 0) _ _ (AllByRecursion (IsFiring timers from to)) (λ t. tt)
      (λ t.
      let one : n ≡ n - 1 + 1 = grind (arith, nat_tests) in
      (record { active = active; there = there; handler = refl; many = subst (λ m. AreSoMany m (IsWithin active.object.setting from to)) one many }, tt))

  one_right : (timer : ℕ) (found : Option (Active Timer)) → active_at timers timer ≡ found → AllByRecursion (IsFiring timers from to) (firing_of from to timer found)
  one_right timer None there = tt
  one_right timer (Some active) there =
      told_right timer active (expiries_between active.object.setting from to) there (lie_between active.object.setting from to)

  right : (list : List ℕ) → AllByRecursion (IsFiring timers from to) (firings timers from to list)
  right [] = tt
  right (timer ∷ others) =
      all_both (IsFiring timers from to) (firing_of from to timer (active_at timers timer)) (firings timers from to others) (one_right timer (active_at timers timer) refl) (right others)

  -- a timer with some expiries fires
  told : (n timer handler k : ℕ) (Holds : ℕ → Type 0) → AreSoMany n Holds → Holds k → (firing : Firing) × Contains (firing_for n timer handler) firing × (firing.timer ≡ timer)
  told n timer handler k Holds many holds =
      cond_both (n == 0) _ _ (λ (fired : List Firing). (firing : Firing) × Contains fired firing × (firing.timer ≡ timer))
      (λ t. let within = (many.each k).1 holds in let none : n ≡ 0 = grind (arith, nat_tests) in absurd (omega (arith, within.0, within.1)))
      (λ t. let firing : Firing = record { timer = timer; backlog = n - 1; handler = handler } in (firing, Contains-push [] firing, refl))

  told_at : (timer k : ℕ) (found : Option (Active Timer)) (active : Active Timer) → found ≡ Some active → IsWithin active.object.setting from to k → (firing : Firing) × Contains (firing_of from to timer found) firing × (firing.timer ≡ timer)
  told_at timer k found active there within =
      subst (λ o. (firing : Firing) × Contains (firing_of from to timer o) firing × (firing.timer ≡ timer)) (sym there)
      (told (expiries_between active.object.setting from to) timer active.object.handler k (IsWithin active.object.setting from to) (lie_between active.object.setting from to) within)

  fires_first : (timer id k : ℕ) (others : List ℕ) (active : Active Timer) → timer ≡ id → active_at timers id ≡ Some active → IsWithin active.object.setting from to k → Fires timers from to (timer ∷ others) id
  fires_first timer id k others active same there within =
      let one = told_at timer k (active_at timers timer) active (ap (active_at timers) same ∙ there) within in
      record { firing = one.0; told = Contains-append_left _ _ _ one.1; own = one.2 ∙ same }

  fires : (list : List ℕ) (id k : ℕ) (active : Active Timer) → Contains list id → active_at timers id ≡ Some active → IsWithin active.object.setting from to k → Fires timers from to list id
  fires [] id k active in_list there within = absurd (none_in id in_list)
  fires (timer ∷ others) id k active in_list there within =
      elim (Contains-append_cases (timer ∷ []) others id in_list) [
        | inl first ↦ elim (Contains-push_cases [] timer id first) [
          | inl none ↦ absurd (none_in id none)
          | inr same ↦ fires_first timer id k others active same there within
        ]
        | inr later ↦
            let rest = fires others id k active later there within in
            record { firing = rest.firing; told = Contains-append_right _ _ _ rest.told; own = rest.own }
      ]

  fired_one : (P : ℕ → Type 0) (n timer handler : ℕ) (rest : List Firing) → P timer → AllByRecursion P (map (λ firing. firing.timer) rest) → AllByRecursion P (map (λ firing. firing.timer) (firing_for n timer handler ++ rest))
  fired_one P n timer handler rest holds all =
      cond_both (n == 0) _ _ (λ (fired : List Firing). AllByRecursion P (map (λ firing. firing.timer) (fired ++ rest))) (λ t. all) (λ t. (holds, all))

  of_one : (P : ℕ → Type 0) (timer : ℕ) (found : Option (Active Timer)) (rest : List Firing) → P timer → AllByRecursion P (map (λ firing. firing.timer) rest) → AllByRecursion P (map (λ firing. firing.timer) (firing_of from to timer found ++ rest))
  of_one P timer None rest holds all = all
  of_one P timer (Some active) rest holds all =
      fired_one P (expiries_between active.object.setting from to) timer active.object.handler rest holds all

  -- what holds of each of some timers holds of those that fire
  of_fired : (P : ℕ → Type 0) (list : List ℕ) → AllByRecursion P list → AllByRecursion P (map (λ firing. firing.timer) (firings timers from to list))
  of_fired P [] all = tt
  of_fired P (timer ∷ others) all = of_one P timer (active_at timers timer) (firings timers from to others) all.0 (of_fired P others all.1)

  once_told : (n timer handler : ℕ) (rest : List Firing) → AllByRecursion (λ other. (timer == other) ≡ false) (map (λ firing. firing.timer) rest) → IsDistinct nat_eq (map (λ firing. firing.timer) rest) → IsDistinct nat_eq (map (λ firing. firing.timer) (firing_for n timer handler ++ rest))
  unfolding IsDistinct
  once_told n timer handler rest others distinct =
      cond_both (n == 0) _ _ (λ (fired : List Firing). IsDistinct nat_eq (map (λ firing. firing.timer) (fired ++ rest))) (λ t. distinct) (λ t. (others, distinct))

  once_one : (timer : ℕ) (found : Option (Active Timer)) (rest : List Firing) → AllByRecursion (λ other. (timer == other) ≡ false) (map (λ firing. firing.timer) rest) → IsDistinct nat_eq (map (λ firing. firing.timer) rest) → IsDistinct nat_eq (map (λ firing. firing.timer) (firing_of from to timer found ++ rest))
  once_one timer None rest others distinct = distinct
  once_one timer (Some active) rest others distinct =
      once_told (expiries_between active.object.setting from to) timer active.object.handler rest others distinct

  once : (list : List ℕ) → IsDistinct nat_eq list → IsDistinct nat_eq (map (λ firing. firing.timer) (firings timers from to list))
  unfolding IsDistinct
  once [] distinct = tt
  once (timer ∷ others) distinct =
      once_one timer (active_at timers timer) (firings timers from to others) (of_fired (λ other. (timer == other) ≡ false) others distinct.0) (once others distinct.1)

-- a tick fires exactly the timers with an expiry in it, each once
pub ticks_fire : TicksFire
ticks_fire = record {
  right = λ timers from to list. right timers from to list;
  all = λ timers from to list timer k active in_list there within. fires timers from to list timer k active in_list there within;
  once = λ timers from to list distinct. once timers from to list distinct;
}
