use Rattle.std.proofs.Common.{◌≡◌, ◌≤◌, ◌+◌, drop}
use Rattle.osal_object.specs.Waits.{count_on}
use Rattle.osal_object.proofs.waits.Waits.count_on.Given as goal

-- those counted and those that are left are all, and no more are counted than were looked at
abbrev pub invariant-loop-held : goal.invariant-loop-held
invariant-loop-held g l =
    (l.count + count_on l.id (drop l.held-index l.self.records) ≡ count_on l.id l.self.records)
    × (l.count ≤ l.held-index)
