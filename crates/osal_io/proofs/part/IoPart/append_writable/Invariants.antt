use Rattle.std.proofs.Common.{◌≡◌, ◌≤◌, ◌+◌, ◌*◌, ◌++◌, length, drop}
use Rattle.osal_select.specs.Selects.{id_bytes, writable_of}
use Rattle.osal_io.specs.Select.{ready_of}
use Rattle.osal_io.proofs.part.IoPart.append_writable.Given as goal

-- with the streams that are left, the count and the bytes are those of all; so far one of each stream at most was counted
abbrev pub invariant-loop-id : goal.invariant-loop-id
invariant-loop-id l = record {
  few : l.count ≤ l.id-index;
  count : l.count + length (writable_of (ready_of l.self) (drop l.id-index l.ids)) ≡ length (writable_of (ready_of l.self) l.ids);
  bytes : l.room ++ id_bytes (writable_of (ready_of l.self) (drop l.id-index l.ids)) ≡ l.initial.room ++ id_bytes (writable_of (ready_of l.self) l.ids);
  room : length l.room + 4 * length (drop l.id-index l.ids) ≤ length l.initial.room + 4 * length l.ids;
}
