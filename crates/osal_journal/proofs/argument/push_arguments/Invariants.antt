-- What was appended, and the spelling of what is left, are the spelling of all.
use Rattle.std.proofs.Common.{◌≡◌, ◌++◌, map, drop}
use Rattle.osal_journal.specs.Spelled.{arguments_text}
use Rattle.osal_call.specs.Shapes.{meant}
use Rattle.osal_journal.proofs.argument.push_arguments.Given as goal

abbrev pub invariant-loop-argument : goal.invariant-loop-argument
invariant-loop-argument l =
    l.out.items ++ arguments_text (map meant (drop l.argument-index l.arguments))
    ≡ l.initial.out.items ++ arguments_text (map meant l.arguments)
