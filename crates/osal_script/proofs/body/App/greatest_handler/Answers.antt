use Rattle.std.proofs.Common.{◌∙◌, ℕ, ap, max, arith}
use Rattle.osal_script.proofs.Dearest.{one_handler}
use Rattle.osal_script.proofs.body.App.greatest_handler.Goals as goal

pub loop-number-preserved : goal.loop-number-preserved
loop-number-preserved c =
    let told = c.loop-number.greatest in
    record {
      within = omega arith;
      greatest =
          c.max-greatest.ensures
          ∙ ap (λ (cost : ℕ). max cost told) c.handler_cost.ensures
          ∙ one_handler c.args.self.now.bodies c.loop-number.number told c.body.result.now (omega arith) c.body.ensures c.loop-number.invariant.greatest;
    }
