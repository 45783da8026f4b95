use Rattle.std.proofs.Common.{◌≡◌, ◌<◌, ◌≤◌, ◌-◌, ◌/◌, slice_index}
use Rattle.osal_blocks.specs.Bytes.{Laid, bytes_in}
use Rattle.osal_blocks.specs.Chains.{blocks_at}
use Rattle.osal_blocks.proofs.bytes.copy.Given as goal

abbrev pub invariant-loop-done : goal.invariant-loop-done
invariant-loop-done l = record {
  most : l.done ≤ l.count;
  source : l.done < l.count → l.source ≡ slice_index (blocks_at l.chains l.from) (l.done / 512);
  target : l.done < l.count → l.target ≡ slice_index (blocks_at l.chains l.to) (l.done / 512);
  laid : Laid l.fn.store l.store (blocks_at l.chains l.to) 0 (bytes_in l.fn.store (blocks_at l.chains l.from) l.count) l.done;
}

abbrev pub decreases-loop-done : goal.decreases-loop-done
decreases-loop-done l = l.count - l.done
