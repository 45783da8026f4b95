use Rattle.std.proofs.Common.{◌≡◌, ◌≤◌, ◌+◌, length, drop, Ok}
use Rattle.osal_line.specs.Words.{lines_of}
use Rattle.osal_line.specs.Declarations.{declared}
use Rattle.osal_reading.specs.Draft.{begun}
use Rattle.osal_reading.specs.Reading.{read_lines, reading_of}
use Rattle.osal_reading.proofs.reader.parse.Given as goal

abbrev pub invariant-loop-line : goal.invariant-loop-line
invariant-loop-line l =
    (l.number + length l.rest ≤ length l.bytes + 1)
    × (read_lines (lines_of l.rest) l.number (Ok l.draft) ≡ reading_of l.bytes)
    × (begun l.draft ≤ length (declared (lines_of l.bytes)))
    × (drop (begun l.draft) (declared (lines_of l.bytes)) ≡ declared (lines_of l.rest))

abbrev pub decreases-loop-line : goal.decreases-loop-line
decreases-loop-line l = length l.rest
