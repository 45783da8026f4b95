-- What was appended is the spelling of the bytes so far.
use Rattle.std.proofs.Common.{◌≡◌, ◌++◌, take}
use Rattle.std.specs.List.{flat_map}
use Rattle.osal_print.specs.Shortest.{string_byte}
use Rattle.osal_print.proofs.shortest.push_string_bytes.Given as goal

abbrev pub invariant-loop-byte : goal.invariant-loop-byte
invariant-loop-byte l = l.out.items ≡ l.initial.out.items ++ flat_map string_byte (take l.byte-index l.bytes)
