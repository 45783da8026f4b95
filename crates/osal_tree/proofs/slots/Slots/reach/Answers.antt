use Rattle.std.proofs.Common.{◌+◌, drop, sym, ap, ◌∙◌}
use Rattle.osal_tree.specs.Slots.{slot_place, walk}
use Rattle.osal_tree.proofs.Walks.{walk_none, walk_on}
use Rattle.osal_tree.proofs.slots.Slots.reach.Goals as goal

pub returns-in_err-child : goal.returns-in_err-child
returns-in_err-child c =
    let rest = drop (c.loop-name.name-index + 1) c.args.at.now in
    c.from_residual.ensures ∙ sym (walk_none c.args.self.now rest)
    ∙ ap (λ o. walk c.args.self.now (slot_place o) rest) c.in_err-child.ensures
    ∙ walk_on c.args.self.now c.loop-name.home c.args.at.now c.loop-name.name-index c.name-item.result _ c.loop-name-test.true c.name-item.is c.loop-name.invariant

pub loop-name-preserved : goal.loop-name-preserved
loop-name-preserved c =
    let rest = drop (c.loop-name.name-index + 1) c.args.at.now in
    ap (λ o. walk c.args.self.now (slot_place o) rest) c.in_ok-child.ensures
    ∙ walk_on c.args.self.now c.loop-name.home c.args.at.now c.loop-name.name-index c.name-item.result _ c.loop-name-test.true c.name-item.is c.loop-name.invariant
