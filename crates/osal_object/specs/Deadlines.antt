-- When the next of some open waits is due.
use Rattle.std.specs.Prelude.{◌++◌, List, [], ◌∷◌, ℕ, Option, Some, None, min, nat_lt, if◌then◌else◌}
use Rattle.osal_base.specs.declared.time.Moment.{Moment}
use Rattle.osal_object.specs.declared.waits.WaitRecord.{WaitRecord}

-- the deadline of a wait, if it lies behind a moment
abbrev pub deadline_above : Moment → Option Moment → List ℕ
deadline_above now None = []
deadline_above now (Some deadline) = if nat_lt now.ms deadline.ms then deadline.ms ∷ [] else []

-- the deadlines of open waits that lie behind a moment
abbrev pub deadlines_in : {W : Type 0} → Moment → List (WaitRecord W) → List ℕ
deadlines_in now [] = []
deadlines_in now (wait ∷ waits) = deadline_above now wait.deadline ++ deadlines_in now waits

-- the lesser of a number and one that may be there
abbrev pub least_with : ℕ → Option ℕ → ℕ
least_with number None = number
least_with number (Some other) = min number other

-- the least of some numbers, if there are any
abbrev pub least : List ℕ → Option ℕ
least [] = None
least (number ∷ numbers) = Some (least_with number (least numbers))

-- the lesser of two numbers that may be there
abbrev pub sooner : Option ℕ → Option ℕ → Option ℕ
sooner None other = other
sooner (Some number) other = Some (least_with number other)
