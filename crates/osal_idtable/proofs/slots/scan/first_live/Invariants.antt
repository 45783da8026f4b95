use Rattle.std.proofs.Common.{◌≡◌, ◌≤◌, ◌<◌, ℕ, get_or, None}
use Rattle.osal_idtable.specs.declared.slot.Slot.TheVariants as slot
use Rattle.osal_idtable.specs.Slots.{live_id}
use Rattle.osal_idtable.proofs.slots.scan.first_live.Given as goal

-- no slot so far has an active identifier
abbrev pub invariant-loop-i : goal.invariant-loop-i
invariant-loop-i g l =
    (at : ℕ) → l.start ≤ at → at < l.i → live_id (get_or l.slots at slot.Free) ≡ None
