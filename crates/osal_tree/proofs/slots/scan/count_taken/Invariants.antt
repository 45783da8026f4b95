use Rattle.std.proofs.Common.{◌≡◌, ◌≤◌, ◌+◌, drop}
use Rattle.osal_tree.specs.Sound.{taken}
use Rattle.osal_tree.proofs.slots.scan.count_taken.Given as goal

-- what is counted and what is left make up the whole
abbrev pub invariant-loop-slot : goal.invariant-loop-slot
invariant-loop-slot l = (l.count + taken (drop l.slot-index l.slots) ≡ taken l.slots) × (l.count ≤ l.slot-index)
