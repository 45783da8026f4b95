use Rattle.std.proofs.Common.{◌≡◌, true, false, refl, sym, ap, ◌∙◌}
use Rattle.std.proofs.Math.ListN.{get_or}
use Rattle.std.proofs.lemmas.Fn.{says_at}
use Rattle.osal_object.specs.Waits.{released_if}
use Rattle.osal_object.specs.Order.{tasks_of}
use Rattle.osal_object.proofs.Tested.{map_over_next, map_over_all}
use Rattle.osal_object.proofs.Turns.{tasks_written}
use Rattle.osal_object.proofs.waits.release_passing.Goals as goal
use Rattle.osal_object.proofs.waits.release_passing.Goals.{then-test, else-test}

pub loop-held-preserved : goal.loop-held-preserved
loop-held-preserved g c =
    let wait = get_or c.loop-held.waits c.loop-held.held-index c.held-item.result in
    let written = tasks_written c.loop-held.waits c.loop-held.held-index in (
      elim c.if-test.branch [
        | then-test w ↦ ap tasks_of w.waits-is ∙ written _ c.held-item.result (ap (λ one. one.task) w.release.ensures) ∙ c.loop-held.invariant.0
        | else-test w ↦ ap tasks_of w.waits-is ∙ written _ c.held-item.result refl ∙ c.loop-held.invariant.0
      ],
      λ passes tests.
          let told = tests c.record.result.now c.test.result (says_at g.F.Fn c.test.ensures refl) ∙ ap passes c.record.ensures in
          let next = map_over_next (released_if passes) c.args.waits.now c.loop-held.waits c.if-test.waits c.loop-held.held-index c.held-item.result c.loop-held-test.true (c.loop-held.invariant.1 passes tests) c.held-item.is in
          elim c.if-test.branch [
            | then-test w ↦ let passed : passes wait ≡ true = sym told ∙ w.if-test.true in next _ w.waits-is (w.release.ensures ∙ rw passed refl)
            | else-test w ↦ let failed : passes wait ≡ false = sym told ∙ w.if-test.false in next _ w.waits-is (rw failed refl)
          ],
    )

pub returns-clause-passing : goal.returns-clause-passing
returns-clause-passing g c = λ passes tests.
    map_over_all (released_if passes) c.args.waits.now c.loop-held.waits c.loop-held.held-index c.loop-held-test.false (c.loop-held.invariant.1 passes tests)
