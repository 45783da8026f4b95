use Rattle.std.proofs.Common.{◌+◌, ◌-◌, ◌*◌, ◌%◌, arith}
use Rattle.osal_blocks.proofs.Copied.{front_after, front_copied}
use Rattle.osal_blocks.proofs.bytes.copy.Goals as goal

pub loop-done-preserved : goal.loop-done-preserved
loop-done-preserved c =
    let there = c.loop-done.invariant.source c.loop-done-test.true in
    let here = c.loop-done.invariant.target c.loop-done-test.true in
    let apart = c.at-source.ensures.apart in
    record {
      most = omega arith;
      source = front_after c.args.chains.now c.args.from c.loop-done.done c.args.count c.loop-done.source c.on_one_block-part.result apart
          c.requires.there c.loop-done-test.true there c.on_one_block-part.ensures c.after-source.result c.after-source.ensures;
      target = front_after c.args.chains.now c.args.to c.loop-done.done c.args.count c.loop-done.target c.on_one_block-part.result apart
          c.requires.room c.loop-done-test.true here c.on_one_block-part.ensures c.after-target.result c.after-target.ensures;
      laid = front_copied c.args.chains.now c.args.to c.loop-done.done c.args.count c.loop-done.target c.on_one_block-part.result apart
          c.requires.room c.loop-done-test.true here c.on_one_block-part.ensures
          c.args.from c.args.store.now c.loop-done.store c.copy_within.new.self c.loop-done.source
          (c.loop-done.source * 512 + c.loop-done.done % 512 + c.on_one_block-part.result - (c.loop-done.source * 512 + c.loop-done.done % 512))
          c.requires.two c.requires.there there (omega arith)
          c.copy_within.ensures.by_index
          c.loop-done.invariant.laid;
    }
