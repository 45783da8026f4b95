use Rattle.std.proofs.Common.{◌<◌, ◌∙◌, ap, arith}
use Rattle.std.proofs.lemmas.Bool.Decides.{nat_tests}
use Rattle.osal_script.specs.Nesting.{depth_after}
use Rattle.osal_reading.proofs.Repeats.{begun_nested}
use Rattle.osal_reading.proofs.blocks.begin_repeat.Goals as goal

pub invariant_of-result : goal.invariant_of-result
invariant_of-result c =
    let body = c.body.inside in
    let times = c.in-Some.times in
    let turn : 0 < times = grind (arith, nat_tests) in
    let room : body.repeats < 4 = grind (arith, nat_tests) in
    ap (depth_after 0) c.in_ok-push.ensures.items ∙ begun_nested body.items.items times body.repeats c.body.invariant turn room
