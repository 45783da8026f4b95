use Rattle.std.proofs.Common.{◌<◌, ◌+◌, ℕ, length, slice_index, arith, ap, ◌∙◌}
use Rattle.osal_blocks.proofs.Walks.{walk_shorter, walk_step}
use Rattle.osal_blocks.proofs.chains.walk.Goals as goal

pub offset_bounds-next-block : goal.offset_bounds-next-block
offset_bounds-next-block c =
    let same = walk_shorter c.args.next.now c.args.first (c.loop-step._step + 1) c.args.steps c.loop-step._step (omega arith) (omega arith) in
    let below = c.requires.within c.loop-step._step (omega arith) in
    let within : c.loop-step.block < length c.args.next.now = rw (c.loop-step.invariant, same) below in
    omega arith

pub bounds-next-block : goal.bounds-next-block
bounds-next-block c =
    let same = walk_shorter c.args.next.now c.args.first (c.loop-step._step + 1) c.args.steps c.loop-step._step (omega arith) (omega arith) in
    rw (c.loop-step.invariant, same) (c.requires.within c.loop-step._step (omega arith))

pub loop-step-preserved : goal.loop-step-preserved
loop-step-preserved c =
    c.from-block-in-loop-step.ensures ∙ (ap (λ (b : ℕ). slice_index c.args.next.now b) c.loop-step.invariant ∙ walk_step c.args.next.now c.args.first c.loop-step._step)
