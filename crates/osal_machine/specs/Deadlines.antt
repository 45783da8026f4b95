-- When the next open wait of the machine is due.
use Rattle.std.specs.Prelude.{◌++◌, List, [], ◌∷◌, ℕ, Option}
use Rattle.osal_base.specs.declared.time.Moment.{Moment}
use Rattle.osal_object.specs.Deadlines.{least}
use Rattle.osal_machine.specs.Step.{MachineState, part_in}
use Rattle.osal_machine.specs.OpenWaits.{part_numbers, deadlines_of}

-- the deadlines of the open waits of some parts that lie behind a moment
abbrev pub deadlines_among : Moment → MachineState → List ℕ → List ℕ
deadlines_among now state [] = []
deadlines_among now state (part ∷ parts) =
    deadlines_of now (part_in part state) ++ deadlines_among now state parts

-- the deadlines of all open waits that lie behind the moment
abbrev pub deadlines : MachineState → List ℕ
deadlines state = deadlines_among state.time.moment state part_numbers

-- the least deadline of an open wait behind the moment, if there is one
abbrev pub next_deadline : MachineState → Option ℕ
next_deadline state = least (deadlines state)
