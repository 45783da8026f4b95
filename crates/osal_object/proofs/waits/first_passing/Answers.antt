use Rattle.std.proofs.Common.{Some, refl, sym, ap, ◌∙◌}
use Rattle.std.proofs.lemmas.Fn.{says_at}
use Rattle.osal_object.proofs.Tested.{found_here, found_later}
use Rattle.osal_object.proofs.waits.first_passing.Goals as goal

pub returns-then-test : goal.returns-then-test
returns-then-test g c = λ passes tests.
    let told = tests c.record-wait.result.now c.test.result (says_at g.F.Fn c.test.ensures refl) ∙ ap passes c.record-wait.ensures in
    ap Some c.record-wait.ensures
    ∙ found_here passes c.args.waits.now c.loop-held.held-index c.held-item.result c.loop-held-test.true c.held-item.is (sym told ∙ c.if-test.true) (c.loop-held.invariant passes tests)

pub loop-held-preserved : goal.loop-held-preserved
loop-held-preserved g c = λ passes tests.
    let told = tests c.record-wait.result.now c.test.result (says_at g.F.Fn c.test.ensures refl) ∙ ap passes c.record-wait.ensures in
    found_later passes c.args.waits.now c.loop-held.held-index c.held-item.result c.loop-held-test.true c.held-item.is (sym told ∙ c.if-test.false) (c.loop-held.invariant passes tests)
