-- What was appended, and the text of what is left, are the text of all.
use Rattle.std.proofs.Common.{◌≡◌, ◌++◌, drop}
use Rattle.osal_print.specs.Shortest.{more_registers}
use Rattle.osal_print.proofs.shortest.push_more_registers.Given as goal

abbrev pub invariant-loop-register : goal.invariant-loop-register
invariant-loop-register l =
    l.out.items ++ more_registers (drop l.register-index l.registers) ≡ l.initial.out.items ++ more_registers l.registers
