use Rattle.std.proofs.Common.{◌≡◌, Bool, drop, find}
use Rattle.osal_object.specs.Tests.{Computes}
use Rattle.osal_object.proofs.waits.first_passing.Given as goal

-- the waits that are left give the same answer
abbrev pub invariant-loop-held : goal.invariant-loop-held
invariant-loop-held g l =
    (passes : _ → Bool) → Computes g.F.Fn l.test passes
    → find passes (drop l.held-index l.waits) ≡ find passes l.waits
