use Rattle.std.proofs.Common.{◌≡◌, ◌≤◌, ◌-◌, length, drop}
use Rattle.osal_script.specs.Empty.{empty_end_from}
use Rattle.osal_script.proofs.walk.empty_end.Given as goal

abbrev pub invariant-loop-at : goal.invariant-loop-at
invariant-loop-at l = record {
  deep : l.depth ≤ l.at;
  same : empty_end_from l.at l.depth (drop l.at l.items) ≡ empty_end_from l.start 0 (drop l.start l.items);
}

abbrev pub decreases-loop-at : goal.decreases-loop-at
decreases-loop-at l = length l.items - l.at
