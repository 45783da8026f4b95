use Rattle.std.proofs.Common.{◌∙◌, ap}
use Rattle.osal_script.specs.Nesting.{depth_after}
use Rattle.osal_reading.proofs.Repeats.{open_behind}
use Rattle.osal_reading.proofs.calls.with_line.Goals as goal

pub invariant_of-result : goal.invariant_of-result
invariant_of-result c =
    let body = c.body.inside in
    ap (depth_after 0) c.in_ok-push.ensures.items ∙ open_behind body.items.items _ body.repeats c.body.invariant
