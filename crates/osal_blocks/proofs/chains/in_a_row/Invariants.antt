use Rattle.std.proofs.Common.{◌≡◌, ◌<◌, ◌+◌, ℕ, length, slice_index}
use Rattle.osal_blocks.proofs.chains.in_a_row.Given as goal

abbrev pub invariant-loop-block : goal.invariant-loop-block
invariant-loop-block l = record {
  count : length l.next.items ≡ l.block;
  row : (k : ℕ) → k < l.block → slice_index l.next.items k ≡ k + 1;
}
