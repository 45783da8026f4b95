-- What holds of the timers and timebases of every history of the time part.
use Rattle.std.specs.Prelude.{◌≡◌, ◌≤◌, ℕ, List, length, nat_eq, Some, min}
use Rattle.std.specs.List.{AllByRecursion, Contains, IsDistinct}
use Rattle.osal_base.specs.declared.limits.Limits.{Limits}
use Rattle.osal_base.specs.declared.time.Moment.{Moment}
use Rattle.osal_base.specs.Limits.{Fits}
use Rattle.osal_idtable.specs.Table.{Active}
use Rattle.osal_idtable.specs.WellFormed.{IsWellFormed}
use Rattle.osal_time.specs.Timebase.{Timebase}
use Rattle.osal_call.specs.Firing.{timer_limit}
use Rattle.osal_time.specs.declared.timer.Timer.{Timer}
use Rattle.osal_time.specs.Time.{TimeState, time_start, timebase_at, timer_at, Advance, done, held, released}
use Rattle.osal_time.specs.Ticks.{firings, timebase_create, timebase_tick, timebase_delete}
use Rattle.osal_time.specs.Timers.{timer_add, timer_set, timer_delete}

-- a timer is active and one of a timebase's
pub record IsAttached (time : TimeState) (timebase timer : ℕ) : Type 0 where
  pub active : Active Timer
  pub there : timer_at time timer ≡ Some active
  pub own : active.object.timebase ≡ timebase

-- a timebase is active and has a timer in its list
pub record IsListed (time : TimeState) (timebase timer : ℕ) : Type 0 where
  pub active : Active Timebase
  pub there : timebase_at time timebase ≡ Some active
  pub listed : Contains active.object.timers timer

-- a timebase has active timers of its own, each once, and not too many
pub record HasOwnTimers (time : TimeState) (id : ℕ) (timebase : Timebase) : Type 0 where
  pub few : length timebase.timers ≤ timer_limit
  pub once : IsDistinct nat_eq timebase.timers
  pub own : AllByRecursion (IsAttached time id) timebase.timers

-- timebases have timers of their own, timers stand in their timebase's list and in a well-formed table of a capacity
pub record AreAttached (capacity : ℕ) (time : TimeState) : Type 0 where
  pub each : (id : ℕ) (active : Active Timebase) → timebase_at time id ≡ Some active → HasOwnTimers time id active.object
  pub listed : (id : ℕ) (active : Active Timer) → timer_at time id ≡ Some active → IsListed time active.object.timebase id
  pub timers : IsWellFormed time.timers.table
  pub room : time.timers.table.capacity ≡ capacity

-- this holds at the start, and each call keeps it
pub record TimersStayAttached (limits : Limits) : Type 0 where
  pub start : Fits limits → AreAttached limits.timers (time_start limits)
  pub create : (time : TimeState) (task : ℕ) (now : Moment) (name : List ℕ) → AreAttached limits.timers time → AreAttached limits.timers (done time task now (timebase_create name)).1
  pub tick : (time : TimeState) (task : ℕ) (now : Moment) (id usecs : ℕ) → AreAttached limits.timers time → AreAttached limits.timers (done time task now (timebase_tick time id usecs)).1
  pub delete : (time : TimeState) (task : ℕ) (now : Moment) (id : ℕ) → AreAttached limits.timers time → AreAttached limits.timers (done time task now (timebase_delete id)).1
  pub add : (time : TimeState) (task : ℕ) (now : Moment) (name : List ℕ) (timebase handler : ℕ) → AreAttached limits.timers time → AreAttached limits.timers (done time task now (timer_add time name timebase handler)).1
  pub set : (time : TimeState) (task : ℕ) (now : Moment) (id start interval : ℕ) → AreAttached limits.timers time → AreAttached limits.timers (done time task now (timer_set time id start interval)).1
  pub remove : (time : TimeState) (task : ℕ) (now : Moment) (id : ℕ) → AreAttached limits.timers time → AreAttached limits.timers (done time task now (timer_delete time id)).1
  pub hold : (time : TimeState) (task : ℕ) (now : Moment) (id : ℕ) → AreAttached limits.timers time → AreAttached limits.timers (done time task now (held id)).1
  pub release : (time : TimeState) (task : ℕ) (now : Moment) (id : ℕ) → AreAttached limits.timers time → AreAttached limits.timers (done time task now (released id)).1
  pub advance : (time : TimeState) (task : ℕ) (now : Moment) (to : ℕ) → AreAttached limits.timers time → AreAttached limits.timers (done time task now (Advance to)).1

-- no more timers fire in a tick than one timebase may have, nor than there may be
abbrev pub FewFire : Type 0
FewFire =
    (time : TimeState) (capacity id : ℕ) (active : Active Timebase) (from to : ℕ)
    → AreAttached capacity time
    → timebase_at time id ≡ Some active
    → length (firings time.timers.table from to active.object.timers) ≤ min timer_limit capacity
