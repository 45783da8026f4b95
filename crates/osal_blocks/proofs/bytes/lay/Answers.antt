use Rattle.std.proofs.Common.{◌+◌, length, ◌∙◌, arith}
use Rattle.std.proofs.lemmas.List.Edits.{get_or-between, length-between}
use Rattle.osal_blocks.proofs.Laid.{part_laid, part_after}
use Rattle.osal_blocks.proofs.bytes.lay.Goals as goal

pub overflow_add-start : goal.overflow_add-start
overflow_add-start c = let short = c.at-block.ensures.apart.short c.args.list in omega arith

pub overflow_add-place : goal.overflow_add-place
overflow_add-place c = let short = c.at-block.ensures.apart.short c.args.list in omega arith

pub loop-done-preserved : goal.loop-done-preserved
loop-done-preserved c =
    let here = c.loop-done.invariant.block c.loop-done-test.true in
    record {
      most = omega arith;
      block = part_after c.args.chains.now c.args.list c.args.place c.loop-done.done (length c.args.piece.now) c.loop-done.block
          c.on_one_block-count.result c.at-block.ensures.apart c.requires.room c.loop-done-test.true here c.on_one_block-count.ensures
          c.after-block.result c.after-block.ensures;
      laid = part_laid c.args.chains.now c.args.list c.args.place c.loop-done.done (length c.args.piece.now) c.loop-done.block
          c.on_one_block-count.result c.at-block.ensures.apart c.requires.room c.loop-done-test.true here c.on_one_block-count.ensures
          c.args.store.now c.loop-done.store c.copy_from_slice.new.self c.args.piece.now (omega arith)
          (rw c.copy_from_slice.ensures.after
          (length-between c.args.piece.now c.loop-done.done (c.loop-done.done + c.on_one_block-count.result) (omega arith) ∙ omega arith))
          (λ j below. rw c.copy_from_slice.ensures.after
          (get_or-between c.args.piece.now c.loop-done.done (c.loop-done.done + c.on_one_block-count.result) j 0 (omega arith)))
          c.loop-done.invariant.laid;
    }
