use Rattle.std.proofs.Common.{◌≡◌, ◌<◌, ◌∙◌, ap, arith}
use Rattle.osal_reading.specs.Draft.{OpenBody}
use Rattle.osal_script.specs.Nesting.{depth_after}
use Rattle.osal_reading.proofs.Repeats.{ended_nested}
use Rattle.osal_reading.proofs.blocks.end_repeat.Goals as goal

pub invariant_of-result : goal.invariant_of-result
invariant_of-result c =
    let body = c.body.inside in
    let same : body.repeats ≡ c.args.body.repeats = ap (λ (b : OpenBody). b.repeats) c.body.view_is in
    let some : 0 < body.repeats = omega (arith, same, c.requires) in
    ap (depth_after 0) c.in_ok-push.ensures.items ∙ ended_nested body.items.items body.repeats c.body.invariant some
