-- How long a call may wait, and when its wait is due.
use Rattle.std.specs.Prelude.{◌+◌, ◌-◌, ◌^◌, ◌==◌, min, nat_le, ℕ, Bool, true, false, Option, Some, None}
use Rattle.osal_base.specs.declared.time.Moment.{Moment}
use Rattle.osal_base.specs.declared.time.Timeout.{Timeout}
use Rattle.osal_base.specs.declared.time.Timeout.TheVariants as timeout

-- the call may not wait; 0 milliseconds mean the same
abbrev pub is_check : Timeout → Bool
is_check timeout.Check = true
is_check timeout.Pend = false
is_check (timeout.Ms ms) = ms == 0

-- the moment so many milliseconds later, or the last moment where the sum passes it
abbrev pub later : Moment → ℕ → Moment
later now ms = record { ms = min (now.ms + ms) (2 ^ 64 - 1) }

-- when a wait that begins now is due: never where it has no deadline
abbrev pub deadline_of : Timeout → Moment → Option Moment
deadline_of timeout.Check now = Some now
deadline_of timeout.Pend now = None
deadline_of (timeout.Ms ms) now = Some (later now ms)

-- whether a deadline has come
abbrev pub has_come : Option Moment → Moment → Bool
has_come None now = false
has_come (Some deadline) now = nat_le deadline.ms now.ms
