-- What was appended, and the lines of the bodies that are left, are the text.
use Rattle.std.proofs.Common.{◌≡◌, ◌++◌, drop}
use Rattle.osal_print.specs.PrintText.{print_text}
use Rattle.osal_print.proofs.Bodies.{bodies_text}
use Rattle.osal_print.proofs.text.print.Given as goal

abbrev pub invariant-loop-number : goal.invariant-loop-number
invariant-loop-number l = l.out.items ++ bodies_text l.app (drop l.number l.app.bodies) ≡ print_text l.app
