use Rattle.std.proofs.Common.{◌≡◌, ◌<◌, ◌≤◌, ◌+◌, ◌-◌, ◌/◌, length, slice_index}
use Rattle.osal_blocks.specs.Bytes.{Laid}
use Rattle.osal_blocks.specs.Chains.{blocks_at}
use Rattle.osal_blocks.proofs.bytes.lay.Given as goal

abbrev pub invariant-loop-done : goal.invariant-loop-done
invariant-loop-done l = record {
  most : l.done ≤ length l.piece;
  block : l.done < length l.piece → l.block ≡ slice_index (blocks_at l.chains l.list) ((l.place + l.done) / 512);
  laid : Laid l.fn.store l.store (blocks_at l.chains l.list) l.place l.piece l.done;
}

abbrev pub decreases-loop-done : goal.decreases-loop-done
decreases-loop-done l = length l.piece - l.done
