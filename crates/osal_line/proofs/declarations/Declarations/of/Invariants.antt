use Rattle.std.proofs.Common.{◌≤◌, ◌+◌, length}
use Rattle.osal_line.specs.Words.{lines_of}
use Rattle.osal_line.specs.Declarations.{declared}
use Rattle.osal_line.proofs.Declaring.{Filled}
use Rattle.osal_line.proofs.declarations.Declarations.of.Given as goal

abbrev pub invariant-loop-line : goal.invariant-loop-line
invariant-loop-line l =
    (l.count + length l.rest ≤ length l.text)
    × Filled l.found (declared (lines_of l.text)) l.count (declared (lines_of l.rest))

abbrev pub decreases-loop-line : goal.decreases-loop-line
decreases-loop-line l = length l.rest
