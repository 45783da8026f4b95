-- What a byte of a quotation does to the rest of it.
use Rattle.std.specs.Prelude.{◌<◌, List, ℕ, Option, None}
use Rattle.osal_line.specs.declared.strings.StringPhase.{StringPhase}
use Rattle.osal_line.specs.declared.strings.StringPhase.TheVariants as phase
use Rattle.osal_line.specs.declared.strings.StringTurn.{StringTurn}
use Rattle.osal_line.specs.declared.strings.StringTurn.TheVariants as turn
use Rattle.osal_line.specs.Values.{string_from, prepended, at_end}

-- what a quotation stands for after a turn
abbrev pub turned : StringTurn → List ℕ → Option (List ℕ)
turned (turn.Next next) rest = string_from next rest
turned (turn.Byte byte) rest = prepended byte (string_from phase.Plain rest)
turned turn.Close rest = at_end rest
turned turn.Wrong rest = None

-- the first digit of a byte that a phase keeps is one
abbrev pub HasDigit : StringPhase → Type 0
HasDigit phase.Plain = Unit {0}
HasDigit phase.Backslash = Unit {0}
HasDigit phase.Hex = Unit {0}
HasDigit (phase.HexEnd high) = high < 16

-- so does the phase to which a turn leads
abbrev pub LeadsToDigit : StringTurn → Type 0
LeadsToDigit (turn.Next next) = HasDigit next
LeadsToDigit (turn.Byte byte) = Unit {0}
LeadsToDigit turn.Close = Unit {0}
LeadsToDigit turn.Wrong = Unit {0}
