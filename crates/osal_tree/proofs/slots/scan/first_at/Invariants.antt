use Rattle.std.proofs.Common.{◌≡◌, drop}
use Rattle.std.specs.List.{position_from}
use Rattle.osal_tree.specs.Slots.{child, is_at}
use Rattle.osal_tree.proofs.slots.scan.first_at.Given as goal

-- the slots that are left give the same answer
abbrev pub invariant-loop-i : goal.invariant-loop-i
invariant-loop-i l = position_from (is_at l.home l.name) l.i (drop l.i l.slots) ≡ child l.slots l.home l.name
