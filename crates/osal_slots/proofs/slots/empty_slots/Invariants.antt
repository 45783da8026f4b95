use Rattle.std.proofs.Common.{◌≡◌, None, replicate, vec_capacity}
use Rattle.osal_slots.proofs.slots.empty_slots.Given as goal

-- so many empty slots as the loop has made, in memory that was there before
abbrev pub invariant-loop-i : goal.invariant-loop-i
invariant-loop-i g l = (l.slots.items ≡ replicate l._i None) × (vec_capacity l.slots ≡ l.count)
