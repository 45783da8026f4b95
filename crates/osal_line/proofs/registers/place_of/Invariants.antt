use Rattle.std.proofs.Common.{◌≡◌, drop}
use Rattle.osal_line.specs.Registers.{place_from}
use Rattle.osal_line.proofs.registers.place_of.Given as goal

abbrev pub invariant-loop-i : goal.invariant-loop-i
invariant-loop-i l = place_from l.i (drop l.i l.names) l.name ≡ place_from 0 l.names l.name
