use Rattle.std.proofs.Common.{◌≡◌, replicate, vec_capacity, None}
use Rattle.osal_tree.proofs.slots.scan.free_slots.Given as goal

-- so many free slots as the loop has made, in memory that was there before
abbrev pub invariant-loop-i : goal.invariant-loop-i
invariant-loop-i l = (l.slots.items ≡ replicate l._i None) × (vec_capacity l.slots ≡ 256)
