use Rattle.std.proofs.Common.{◌≡◌, drop, []}
use Rattle.osal_tree.specs.Gathering.{gathered}
use Rattle.osal_tree.proofs.slots.names.names_in.Given as goal

-- the slots that are left make of the names so far what all make of none
abbrev pub invariant-loop-slot : goal.invariant-loop-slot
invariant-loop-slot l = gathered l.home l.names.items (drop l.slot-index l.slots) ≡ gathered l.home [] l.slots
