use Rattle.std.proofs.Common.{◌≡◌, drop, Some}
use Rattle.osal_tree.specs.Slots.{walk, reach}
use Rattle.osal_tree.proofs.slots.Slots.reach.Given as goal

-- the names that are left lead to the same place
abbrev pub invariant-loop-name : goal.invariant-loop-name
invariant-loop-name l = walk l.self (Some l.home) (drop l.name-index l.at) ≡ reach l.self l.at
