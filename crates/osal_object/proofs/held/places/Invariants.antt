use Rattle.std.proofs.Common.{◌≡◌, length, vec_capacity}
use Rattle.osal_object.proofs.held.places.Given as goal

-- so many boxes as the loop has taken, in memory that was there before
abbrev pub invariant-loop-i : goal.invariant-loop-i
invariant-loop-i g l = (length l.places.items ≡ l._i) × (vec_capacity l.places ≡ l.count)
