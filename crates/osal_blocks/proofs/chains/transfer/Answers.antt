use Rattle.osal_blocks.specs.Chains.{chains_in}
use Rattle.osal_blocks.proofs.Transferred.{moved_more}
use Rattle.osal_blocks.proofs.chains.transfer.Goals as goal

pub loop-moved-preserved : goal.loop-moved-preserved
loop-moved-preserved c = record {
  moved = moved_more (chains_in c.args.next.now c.args.ends.now) (chains_in c.loop-moved.next c.loop-moved.ends)
      (chains_in c.shift.new.next c.shift.new.ends) c.args.from c.args.to c.loop-moved._moved c.requires.two c.loop-moved.invariant.moved c.shift.ensures.moved;
  threaded = c.shift.ensures.threaded;
}
