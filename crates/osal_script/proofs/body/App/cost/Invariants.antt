use Rattle.std.proofs.Common.{◌≡◌, ◌≤◌, length}
use Rattle.osal_price.specs.Saturated.{saturated}
use Rattle.osal_script.specs.Cost.{tick_cost}
use Rattle.osal_script.proofs.Bodies.{HaveCosts}
use Rattle.osal_script.proofs.body.App.cost.Given as goal

abbrev pub invariant-loop-number : goal.invariant-loop-number
invariant-loop-number l = record {
  within : l.number ≤ length l.self.bodies;
  room : length l.prices.bodies ≡ 64;
  tick : l.prices.tick ≡ saturated (tick_cost l.self.bodies);
  have : HaveCosts (tick_cost l.self.bodies) l.prices.bodies l.number l.self.bodies;
}

abbrev pub decreases-loop-number : goal.decreases-loop-number
decreases-loop-number l = l.number
