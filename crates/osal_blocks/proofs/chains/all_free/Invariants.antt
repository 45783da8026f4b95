use Rattle.std.proofs.Common.{◌≡◌, ℕ, length}
use Rattle.osal_blocks.specs.Chains.{ends_at, no_ends}
use Rattle.osal_blocks.proofs.chains.all_free.Given as goal

abbrev pub invariant-loop-file : goal.invariant-loop-file
invariant-loop-file l = record {
  count : length l.ends.items ≡ l._file;
  none : (file : ℕ) → ends_at l.ends.items file ≡ no_ends;
}
