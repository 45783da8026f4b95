use Rattle.std.proofs.Common.{◌≡◌, ◌≤◌, length, drop}
use Rattle.osal_price.specs.Saturated.{saturated}
use Rattle.osal_script.specs.Cost.{greatest_handler}
use Rattle.osal_script.proofs.body.App.greatest_handler.Given as goal

abbrev pub invariant-loop-number : goal.invariant-loop-number
invariant-loop-number l = record {
  within : l.number ≤ length l.self.bodies;
  greatest : l.greatest ≡ saturated (greatest_handler (drop l.number l.self.bodies));
}

abbrev pub decreases-loop-number : goal.decreases-loop-number
decreases-loop-number l = l.number
