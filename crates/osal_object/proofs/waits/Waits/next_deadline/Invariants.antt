use Rattle.std.proofs.Common.{◌≡◌, drop}
use Rattle.osal_object.specs.Deadlines.{deadlines_in, least, sooner}
use Rattle.osal_object.proofs.waits.Waits.next_deadline.Given as goal

-- what was found and the waits that are left give the same answer
abbrev pub invariant-loop-held : goal.invariant-loop-held
invariant-loop-held g l =
    sooner l.next (least (deadlines_in l.now (drop l.held-index l.self.records))) ≡ least (deadlines_in l.now l.self.records)
