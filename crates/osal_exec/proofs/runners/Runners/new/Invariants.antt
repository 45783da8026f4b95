use Rattle.std.proofs.Common.{◌≡◌, None, replicate, vec_capacity}
use Rattle.osal_exec.proofs.runners.Runners.new.Given as goal

-- so many empty slots as the loop has made, in memory that was there before
abbrev pub invariant-loop-i : goal.invariant-loop-i
invariant-loop-i l = (l.slots.items ≡ replicate l._i None) × (vec_capacity l.slots ≡ 64)
