use Rattle.std.proofs.Common.{◌≡◌, ◌<◌, ◌≤◌, ◌+◌, ◌-◌, ◌/◌, slice_index}
use Rattle.osal_blocks.specs.Bytes.{Reads}
use Rattle.osal_blocks.specs.Chains.{blocks_at}
use Rattle.osal_blocks.proofs.bytes.read.Given as goal

abbrev pub invariant-loop-done : goal.invariant-loop-done
invariant-loop-done l = record {
  most : l.done ≤ l.count;
  block : l.done < l.count → l.block ≡ slice_index (blocks_at l.chains l.list) ((l.place + l.done) / 512);
  read : Reads l.store (blocks_at l.chains l.list) l.place l.room l.done;
}

abbrev pub decreases-loop-done : goal.decreases-loop-done
decreases-loop-done l = l.count - l.done
