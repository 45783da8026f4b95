-- A timebase: a running sum of microseconds, and the timers that are attached to it.
use Rattle.std.specs.Prelude.{◌≤◌, ◌^◌, ◌++◌, ℕ, List, [], ◌∷◌, filter, length, not, ◌==◌}
use Rattle.osal_call.specs.Firing.{timer_limit}

-- the sum, and the timers in the order of their attachment
pub record Timebase : Type 0 where
  pub sum : ℕ
  pub timers : List ℕ

-- the most microseconds to which a timebase runs
abbrev pub sum_limit : ℕ
sum_limit = 2 ^ 62

-- a timebase at the start of its time, without timers
abbrev pub new_timebase : Timebase
new_timebase = record { sum = 0; timers = [] }

-- the timebase with one timer more, behind the others
abbrev pub with_timer : Timebase → ℕ → Timebase
with_timer timebase timer = record timebase { timers = timebase.timers ++ timer ∷ [] }

-- the timebase without a timer
abbrev pub without_timer : Timebase → ℕ → Timebase
without_timer timebase timer = record timebase { timers = filter (λ other. not (other == timer)) timebase.timers }

-- the sum and the timers are within their limits
pub record IsBounded (timebase : Timebase) : Type 0 where
  pub sum : timebase.sum ≤ sum_limit
  pub timers : length timebase.timers ≤ timer_limit
