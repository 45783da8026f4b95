use Rattle.std.proofs.Common.{◌+◌, ◌*◌, ◌%◌, ◌∙◌, arith}
use Rattle.std.proofs.lemmas.List.Edits.{length-between}
use Rattle.osal_blocks.specs.Chains.{blocks_at}
use Rattle.osal_blocks.proofs.Copied.{front_after, front_laid, front_bytes, front_within}
use Rattle.osal_blocks.specs.Bytes.{bytes_in}
use Rattle.osal_blocks.proofs.bytes.copy_from.Goals as goal

pub loop-done-preserved : goal.loop-done-preserved
loop-done-preserved c =
    let there = c.loop-done.invariant.source c.loop-done-test.true in
    let here = c.loop-done.invariant.target c.loop-done-test.true in
    let apart = c.at-target.ensures.apart in
    let others = c.at-source.ensures.apart in
    let start = c.loop-done.source * 512 + c.loop-done.done % 512 in
    let within = front_within c.args.other_chains.now c.args.from c.loop-done.done c.args.count c.loop-done.source c.on_one_block-part.result others
    c.requires.there c.loop-done-test.true there c.on_one_block-part.ensures c.args.others.now c.requires.others in
    record {
      most = omega arith;
      source = front_after c.args.other_chains.now c.args.from c.loop-done.done c.args.count c.loop-done.source c.on_one_block-part.result others
          c.requires.there c.loop-done-test.true there c.on_one_block-part.ensures c.after-source.result c.after-source.ensures;
      target = front_after c.args.chains.now c.args.to c.loop-done.done c.args.count c.loop-done.target c.on_one_block-part.result apart
          c.requires.room c.loop-done-test.true here c.on_one_block-part.ensures c.after-target.result c.after-target.ensures;
      laid = front_laid c.args.chains.now c.args.to c.loop-done.done c.args.count c.loop-done.target c.on_one_block-part.result apart
          c.requires.room c.loop-done-test.true here c.on_one_block-part.ensures
          c.args.store.now c.loop-done.store c.copy_from_slice.new.self
          (bytes_in c.args.others.now (blocks_at c.args.other_chains.now c.args.from) c.args.count) (omega arith)
          (rw c.copy_from_slice.ensures.after (length-between c.args.others.now start (start + c.on_one_block-part.result) within ∙ omega arith))
          (λ j below. rw c.copy_from_slice.ensures.after
          (front_bytes c.args.chains.now c.args.to c.loop-done.done c.args.count c.loop-done.target c.on_one_block-part.result apart
          c.requires.room c.loop-done-test.true here c.on_one_block-part.ensures
          c.args.others.now (blocks_at c.args.other_chains.now c.args.from) c.loop-done.source there within j below))
          c.loop-done.invariant.laid;
    }
