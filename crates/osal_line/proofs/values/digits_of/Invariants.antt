use Rattle.std.proofs.Common.{◌≡◌, ◌≤◌, ◌+◌, drop, Some}
use Rattle.osal_line.specs.Values as values
use Rattle.osal_line.proofs.values.digits_of.Given as goal

abbrev pub invariant-loop-byte : goal.invariant-loop-byte
invariant-loop-byte l =
    (l.number ≤ l.greatest)
    × (values.digits_after l.base (l.greatest + 1) (drop l.byte-index l.bytes) (Some l.number)
    ≡ values.digits_of l.base (l.greatest + 1) l.bytes)
