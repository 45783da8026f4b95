use Rattle.std.proofs.Common.{◌≡◌, drop}
use Rattle.osal_tree.specs.Paths.{is_within}
use Rattle.osal_file.proofs.paths.is_within.Given as goal

-- the names that are left give the same answer
abbrev pub invariant-loop-i : goal.invariant-loop-i
invariant-loop-i l = is_within (drop l.i l.upper) (drop l.i l.at) ≡ is_within l.upper l.at
