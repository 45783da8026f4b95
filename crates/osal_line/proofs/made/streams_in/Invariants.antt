use Rattle.std.proofs.Common.{◌≡◌, ◌≤◌, length, drop, map, slice_index}
use Rattle.osal_select.specs.Sets.{joined}
use Rattle.osal_line.specs.Calls.{streams_in}
use Rattle.osal_line.proofs.made.streams_in.Given as goal

-- each register gave one stream at most, and the streams of those that are left are joined to them
abbrev pub invariant-loop-register : goal.invariant-loop-register
invariant-loop-register l = record {
  few : length l.streams ≤ l.register-index;
  same : joined l.streams (map (slice_index l.registers) (drop l.register-index l.named)) ≡ streams_in l.registers l.named;
}
