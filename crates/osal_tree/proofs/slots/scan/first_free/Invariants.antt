use Rattle.std.proofs.Common.{◌≡◌, drop, is_none}
use Rattle.std.specs.List.{position_from}
use Rattle.osal_tree.specs.Slots.{free_slot}
use Rattle.osal_tree.proofs.slots.scan.first_free.Given as goal

-- the slots that are left give the same answer
abbrev pub invariant-loop-i : goal.invariant-loop-i
invariant-loop-i l = position_from is_none l.i (drop l.i l.slots) ≡ free_slot l.slots
