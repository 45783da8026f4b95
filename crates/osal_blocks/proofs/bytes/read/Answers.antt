use Rattle.std.proofs.Common.{arith}
use Rattle.osal_blocks.proofs.Laid.{part_read, part_after}
use Rattle.osal_blocks.proofs.bytes.read.Goals as goal

pub overflow_add-start : goal.overflow_add-start
overflow_add-start c = let short = c.at-block.ensures.apart.short c.args.list in omega arith

pub overflow_add-place : goal.overflow_add-place
overflow_add-place c = let short = c.at-block.ensures.apart.short c.args.list in omega arith

pub loop-done-preserved : goal.loop-done-preserved
loop-done-preserved c =
    let here = c.loop-done.invariant.block c.loop-done-test.true in
    record {
      most = omega arith;
      block = part_after c.args.chains.now c.args.list c.args.place c.loop-done.done c.args.count c.loop-done.block
          c.on_one_block-part.result c.at-block.ensures.apart c.requires.there c.loop-done-test.true here c.on_one_block-part.ensures
          c.after-block.result c.after-block.ensures;
      read = rw c.append.ensures
          (part_read c.args.chains.now c.args.list c.args.place c.loop-done.done c.args.count c.loop-done.block
          c.on_one_block-part.result c.at-block.ensures.apart c.requires.there c.loop-done-test.true here c.on_one_block-part.ensures
          c.args.store.now c.loop-done.room c.requires.store c.loop-done.invariant.read);
    }
