use Rattle.std.proofs.Common.{◌≡◌, length, take, ◌-◌, ◌≤◌}
use Rattle.osal_outside.specs.Causes.{WhereTold}
use Rattle.osal_outside.specs.Sink.{Appends}
use Rattle.osal_outside.proofs.sink.send_all.Given as goal

-- so far a front of the bytes was appended, and there was no fault
abbrev pub invariant-loop-sent : goal.invariant-loop-sent
invariant-loop-sent g l =
    (l.sent ≤ length l.bytes)
    × WhereTold (g.K.Sink.written l.fn.sink) (g.K.Sink.written l.sink) (Appends (take l.sent l.bytes))
    × (g.K.Sink.faults l.sink ≡ g.K.Sink.faults l.fn.sink)

abbrev pub decreases-loop-sent : goal.decreases-loop-sent
decreases-loop-sent g l = length l.bytes - l.sent
