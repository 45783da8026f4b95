use Rattle.std.proofs.Common.{◌≡◌, ◌≤◌, length, drop, map}
use Rattle.osal_price.specs.Saturated.{saturated, prices_of}
use Rattle.osal_script.specs.Cost.{level_costs}
use Rattle.osal_script.proofs.cost.items_cost.Given as goal

abbrev pub invariant-loop-at : goal.invariant-loop-at
invariant-loop-at l = record {
  within : l.at ≤ length l.items;
  levels : l.levels ≡ map saturated (level_costs (prices_of l.prices) (drop l.at l.items));
}

abbrev pub decreases-loop-at : goal.decreases-loop-at
decreases-loop-at l = l.at
