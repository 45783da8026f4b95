use Rattle.std.proofs.Common.{◌≡◌, ◌≤◌, ◌+◌, length, drop}
use Rattle.osal_select.specs.Sets.{joined, Ascend}
use Rattle.osal_select.proofs.set.put_each.Given as goal

-- the streams that are left lead to the same, in order and with room
abbrev pub invariant-loop-id : goal.invariant-loop-id
invariant-loop-id l = record {
  order : Ascend l.all.items;
  room : length l.all.items + length (drop l.id-index l.ids) ≤ 128;
  same : joined l.all.items (drop l.id-index l.ids) ≡ joined l.initial.all.items l.ids;
}
