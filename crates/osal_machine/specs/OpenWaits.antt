-- The open waits of each part, by the part's number.
use Rattle.std.specs.Prelude.{ℕ, Bool, false, List, [], ◌∷◌, length, is_some, nat_lt}
use Rattle.osal_base.specs.declared.time.Moment.{Moment}
use Rattle.osal_idtable.specs.Sound.{AtMostOne}
use Rattle.osal_object.specs.Waits.{is_of, wait_of}
use Rattle.osal_object.specs.Deadlines.{deadlines_in}
use Rattle.osal_machine.specs.Parts.{PartState, on_waits}

-- the numbers of the parts
abbrev pub part_numbers : List ℕ
part_numbers = 0 ∷ 1 ∷ 2 ∷ 3 ∷ 4 ∷ 5 ∷ 6 ∷ 7 ∷ 8 ∷ []

-- whether a task has an open wait in a part
abbrev pub has_wait : PartState → ℕ → Bool
has_wait part task = on_waits (λ W waits. is_some (wait_of waits task)) false part

-- whether any task has an open wait in a part
abbrev pub has_waits : PartState → Bool
has_waits part = on_waits (λ W waits. nat_lt 0 (length waits.records)) false part

-- a task has at most one open wait in a part
abbrev pub WaitsOnce : PartState → ℕ → Type 0
WaitsOnce part task = on_waits (λ W waits. AtMostOne (is_of task) waits.records) (Unit {0}) part

-- the deadlines of a part's open waits that lie behind a moment
abbrev pub deadlines_of : Moment → PartState → List ℕ
deadlines_of now part = on_waits (λ W waits. deadlines_in now waits.records) [] part
