use Rattle.std.proofs.Common.{◌≡◌, ◌≤◌, ◌+◌, ◌-◌, length, drop}
use Rattle.osal_select.specs.Sets.{below}
use Rattle.osal_select.proofs.set.place_of.Given as goal

-- those that are passed come before the stream
abbrev pub invariant-loop-place : goal.invariant-loop-place
invariant-loop-place l = record {
  within : l.place ≤ length l.ids;
  passed : l.place + below l.id (drop l.place l.ids) ≡ below l.id l.ids;
}

abbrev pub decreases-loop-place : goal.decreases-loop-place
decreases-loop-place l = length l.ids - l.place
