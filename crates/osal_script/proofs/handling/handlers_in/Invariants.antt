use Rattle.std.proofs.Common.{◌≡◌, ◌≤◌, ◌-◌, ◌*◌, length, drop}
use Rattle.osal_script.specs.Script.{handler_numbers}
use Rattle.osal_script.proofs.handling.handlers_in.Given as goal

abbrev pub invariant-loop-at : goal.invariant-loop-at
invariant-loop-at l = record {
  few : l.at ≤ 64;
  whole : 12 * l.at ≤ length l.bytes;
  numbers : l.waiting ≡ handler_numbers (64 - l.at) (drop (12 * l.at) l.bytes);
}

abbrev pub decreases-loop-at : goal.decreases-loop-at
decreases-loop-at l = l.at
