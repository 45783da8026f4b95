use Rattle.std.proofs.Common.{◌≡◌, drop}
use Rattle.osal_script.specs.Expected.{expected_in}
use Rattle.osal_script.proofs.expected.expected_in.Given as goal

abbrev pub invariant-loop-item : goal.invariant-loop-item
invariant-loop-item l = expected_in l.number (drop l.item-index l.items) ≡ expected_in l.number l.items
