use Rattle.std.proofs.Common.{◌≡◌}
use Rattle.osal_script.specs.Walk.{lines_at}
use Rattle.osal_script.specs.Steps.{steps_at}
use Rattle.osal_script.specs.Place.{IsPlace}
use Rattle.osal_script.proofs.walk.settle.Given as goal

abbrev pub invariant-loop-count : goal.invariant-loop-count
invariant-loop-count l = record { place_in : IsPlace l.items l.place; lines : lines_at l.items l.place ≡ lines_at l.items l.initial.place }

abbrev pub decreases-loop-count : goal.decreases-loop-count
decreases-loop-count l = steps_at l.items l.place
