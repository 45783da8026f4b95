-- No more timers fire in a tick than one timebase may have, nor than there may be.
use Rattle.std.proofs.Common.{◌≡◌, ◌<◌, ◌≤◌, ◌==◌, ◌||◌, ℕ, true, false, List, [], ◌∷◌, length, map, Option, Some, None, eqb, nat_eq, refl, ap, arith}
use Rattle.std.specs.FinMap as finite_map
use Rattle.std.specs.List.{AllByRecursion, IsDistinct, list_any}
use Rattle.std.proofs.Math.Nat.{le-min, mod-lt}
use Rattle.std.proofs.lemmas.Bool.{both_ways, cond_both, eq-eqb, eqb-true}
use Rattle.std.proofs.lemmas.List.{length-append, length-map}
use Rattle.std.proofs.lemmas.Map.Steps.{length-le_from_distinct_below}
use Rattle.osal_base.specs.Identifier.{serial_of, slot_of}
use Rattle.osal_idtable.specs.Table.{Active, TableState, active_at}
use Rattle.osal_idtable.specs.WellFormed.{IsWellFormed, known_as}
use Rattle.osal_idtable.proofs.Keyed.{apart}
use Rattle.osal_time.specs.declared.timer.Timer.{Timer}
use Rattle.osal_time.specs.Expiry.{expiries_between}
use Rattle.osal_time.specs.Ticks.{firing_for, firing_of, firings}
use Rattle.osal_call.specs.Firing.{Firing}
use Rattle.osal_time.specs.Time.{TimeState}
use Rattle.osal_time.specs.Attachment.{IsAttached, FewFire}

one_firing : (expiries timer handler : ℕ) → length (firing_for expiries timer handler) ≤ 1
one_firing expiries timer handler =
    cond_both (expiries == 0) _ _ (λ (fired : List Firing). length fired ≤ 1) (λ none. omega arith) (λ some. omega arith)

-- a timer fires at most once
fires_once : (from to timer : ℕ) (found : Option (Active Timer)) → length (firing_of from to timer found) ≤ 1
fires_once from to timer None = omega arith
fires_once from to timer (Some active) =
    one_firing (expiries_between active.object.setting from to) timer active.object.handler

-- no more timers fire than are asked
fewer_fire : (timers : TableState Timer) (from to : ℕ) (list : List ℕ) → length (firings timers from to list) ≤ length list
fewer_fire timers from to [] = omega arith
fewer_fire timers from to (timer ∷ others) =
    let first = firing_of from to timer (active_at timers timer) in
    let one = fires_once from to timer (active_at timers timer) in
    let rest = fewer_fire timers from to others in
    let both = length-append first (firings timers from to others) in
    omega arith

module _ (time : TimeState) (timebase capacity : ℕ) (good : IsWellFormed time.timers.table) (room : time.timers.table.capacity ≡ capacity) where
  -- the slots of some timers
  abbrev slots : List ℕ → List ℕ
  slots timers = map (λ timer. slot_of timer time.timers.table.capacity) timers

  same_timer : (timer other : ℕ) → IsAttached time timebase timer → IsAttached time timebase other → slot_of timer time.timers.table.capacity ≡ slot_of other time.timers.table.capacity → timer ≡ other
  same_timer timer other one two same =
      good.one_slot timer other one.active.name two.active.name
      (ap (λ o. known_as o (finite_map.get time.timers.table.reserved timer)) one.there)
      (ap (λ o. known_as o (finite_map.get time.timers.table.reserved other)) two.there)
      same

  slots_apart : (timer : ℕ) (others : List ℕ) → IsAttached time timebase timer → AllByRecursion (IsAttached time timebase) others → AllByRecursion (λ other. (timer == other) ≡ false) others → AllByRecursion (λ slot. eqb (slot_of timer time.timers.table.capacity) slot ≡ false) (slots others)
  slots_apart timer [] one all differ = tt
  slots_apart timer (other ∷ others) one all differ = (
    apart _ _ (λ same. both_ways (timer == other) differ.0 (eq-eqb timer other (same_timer timer other one all.0 same))),
    slots_apart timer others one all.1 differ.1,
  )

  -- timers that are attached, each once, stand in different slots
  slots_differ : (timers : List ℕ) → AllByRecursion (IsAttached time timebase) timers → IsDistinct nat_eq timers → IsDistinct eqb (slots timers)
  unfolding IsDistinct
  slots_differ [] all once = tt
  slots_differ (timer ∷ timers) all once =
      (slots_apart timer timers all.0 all.1 once.0, slots_differ timers all.1 once.1)

  -- each slot is below the capacity
  slots_below : (timers : List ℕ) (slot : ℕ) → list_any (eqb slot) (slots timers) ≡ true → slot < capacity
  slots_below [] slot is = cc
  slots_below (timer ∷ timers) slot is =
      let here = slot_of timer time.timers.table.capacity in
      elim (eqb slot here) as (λ b. eqb slot here ≡ b → (b || list_any (eqb slot) (slots timers)) ≡ true → slot < capacity) [
        | true ↦ λ same is.
            let some = good.room.0 in
            let below : here < time.timers.table.capacity = mod-lt (serial_of timer) (omega arith) in
            let one = eqb-true slot here same in
            omega arith
        | false ↦ λ other is. slots_below timers slot is
      ] refl is

  -- attached timers are at most as many as there may be
  few_attached : (timers : List ℕ) → AllByRecursion (IsAttached time timebase) timers → IsDistinct nat_eq timers → length timers ≤ capacity
  few_attached timers all once =
      let few = length-le_from_distinct_below (slots timers) capacity (slots_differ timers all once) (slots_below timers) in
      let long = length-map timers (λ timer. slot_of timer time.timers.table.capacity) in
      omega arith

-- no more timers fire in a tick than one timebase may have, nor than there may be
pub few_fire : FewFire
few_fire time capacity id active from to all is =
    let own = all.each id active is in
    let fewer = fewer_fire time.timers.table from to active.object.timers in
    let attached = few_attached time id capacity all.timers all.room active.object.timers own.own own.once in
    let few = own.few in
    le-min (omega arith) (omega arith)
