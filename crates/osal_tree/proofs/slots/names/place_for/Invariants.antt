use Rattle.std.proofs.Common.{◌≡◌, ◌++◌, take, drop}
use Rattle.osal_tree.specs.Gathering.{put}
use Rattle.osal_tree.proofs.slots.names.place_for.Given as goal

-- the names so far come before the name
abbrev pub invariant-loop-i : goal.invariant-loop-i
invariant-loop-i l = put l.name l.names ≡ take l.i l.names ++ put l.name (drop l.i l.names)
