use Rattle.std.proofs.Common.{◌≡◌, replicate, vec_capacity}
use Rattle.osal_idtable.specs.declared.slot.Slot.TheVariants as slot
use Rattle.osal_idtable.proofs.slots.scan.free_slots.Given as goal

-- so many free slots as the loop has made, in memory that was there before
abbrev pub invariant-loop-i : goal.invariant-loop-i
invariant-loop-i g l =
    (l.slots.items ≡ replicate l._i slot.Free) × (vec_capacity l.slots ≡ l.capacity)
