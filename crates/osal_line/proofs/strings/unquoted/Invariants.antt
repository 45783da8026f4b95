use Rattle.std.proofs.Common.{◌≡◌, drop}
use Rattle.osal_line.specs.declared.strings.StringPhase.TheVariants as phase
use Rattle.osal_line.specs.Values.{string_from}
use Rattle.osal_line.specs.Turns.{HasDigit}
use Rattle.osal_line.proofs.Quotes.{with_front}
use Rattle.osal_line.proofs.strings.unquoted.Given as goal

abbrev pub invariant-loop-i : goal.invariant-loop-i
invariant-loop-i l =
    HasDigit l.phase
    × (with_front l.text.items (string_from l.phase (drop l.i l.bytes)) ≡ string_from phase.Plain l.bytes)
