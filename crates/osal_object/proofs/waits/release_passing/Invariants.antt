use Rattle.std.proofs.Common.{◌≡◌, ◌++◌, Bool, map, take, drop}
use Rattle.osal_object.specs.Waits.{released_if}
use Rattle.osal_object.specs.Order.{tasks_of}
use Rattle.osal_object.specs.Tests.{Computes}
use Rattle.osal_object.proofs.waits.release_passing.Given as goal

-- the waits are of the same tasks; those so far are released where they pass the test, and the others are as they were
abbrev pub invariant-loop-held : goal.invariant-loop-held
invariant-loop-held g l =
    (tasks_of l.waits ≡ tasks_of l.initial.waits)
    × ((passes : _ → Bool) → Computes g.F.Fn l.test passes
    → l.waits ≡ map (released_if passes) (take l.held-index l.initial.waits) ++ drop l.held-index l.initial.waits)
