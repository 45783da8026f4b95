-- Which timers fire in a tick, and for which of their expiries.
use Rattle.std.specs.Prelude.{◌≡◌, ◌<◌, ◌≤◌, ◌+◌, ◌↔◌, ℕ, List, map, nat_eq, Option, Some, None}
use Rattle.std.specs.List.{AllByRecursion, Contains, IsDistinct}
use Rattle.osal_call.specs.Firing.{Firing}
use Rattle.osal_idtable.specs.Table.{Active, TableState, active_at}
use Rattle.osal_time.specs.declared.timer.Setting.{Setting}
use Rattle.osal_time.specs.declared.timer.Timer.{Timer}
use Rattle.osal_time.specs.Expiry.{HasExpiry, expiry, expiries_between}
use Rattle.osal_time.specs.Ticks.{firings}

-- the expiry of a number lies above one sum and not above another; a timer that may not be set has none
abbrev pub IsWithin : Option Setting → ℕ → ℕ → ℕ → Type 0
IsWithin None from to k = ⊥
IsWithin (Some setting) from to k = HasExpiry setting k × (from < expiry setting k) × (expiry setting k ≤ to)

-- so many numbers, one after another, are those of which something holds
pub record AreSoMany (n : ℕ) (Holds : ℕ → Type 0) : Type 0 where
  pub first : ℕ
  pub each : (k : ℕ) → ((first ≤ k) × (k < first + n)) ↔ Holds k

-- between two sums there are as many expiries as are counted
abbrev pub ExpiriesLieBetween : Type 0
ExpiriesLieBetween =
    (setting : Option Setting) (from to : ℕ) → AreSoMany (expiries_between setting from to) (IsWithin setting from to)

-- a firing tells of a timer that is there, with an expiry in the tick, and of how many it has there beside that one
pub record IsFiring (timers : TableState Timer) (from to : ℕ) (firing : Firing) : Type 0 where
  pub active : Active Timer
  pub there : active_at timers firing.timer ≡ Some active
  pub handler : firing.handler ≡ active.object.handler
  pub many : AreSoMany (firing.backlog + 1) (IsWithin active.object.setting from to)

-- a timer with an expiry in a tick fires in it
pub record Fires (timers : TableState Timer) (from to : ℕ) (list : List ℕ) (timer : ℕ) : Type 0 where
  pub firing : Firing
  pub told : Contains (firings timers from to list) firing
  pub own : firing.timer ≡ timer

-- a tick from one sum to another fires those of some timers that have an expiry in it, each once
pub record TicksFire : Type 0 where
  pub right : (timers : TableState Timer) (from to : ℕ) (list : List ℕ) → AllByRecursion (IsFiring timers from to) (firings timers from to list)
  pub all : (timers : TableState Timer) (from to : ℕ) (list : List ℕ) (timer k : ℕ) (active : Active Timer) → Contains list timer → active_at timers timer ≡ Some active → IsWithin active.object.setting from to k → Fires timers from to list timer
  pub once : (timers : TableState Timer) (from to : ℕ) (list : List ℕ) → IsDistinct nat_eq list → IsDistinct nat_eq (map (λ firing. firing.timer) (firings timers from to list))
