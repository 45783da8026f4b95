-- What was pushed and the plain run behind it are the spelling of the bytes so far.
use Rattle.std.proofs.Common.{◌≡◌, ◌≤◌, ◌++◌, take, drop}
use Rattle.std.specs.List.{flat_map}
use Rattle.osal_spelling.specs.Spelling.{quoted_byte}
use Rattle.osal_spelling.proofs.spelling.push_quoted_bytes.Given as goal

abbrev pub invariant-loop-at : goal.invariant-loop-at
invariant-loop-at l = record {
  within : l.from ≤ l.at;
  spelled : l.out.items ++ drop l.from (take l.at l.bytes) ≡ l.initial.out.items ++ flat_map quoted_byte (take l.at l.bytes);
}
