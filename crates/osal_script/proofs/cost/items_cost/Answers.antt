use Rattle.std.proofs.Common.{◌≡◌, ◌+◌, ◌-◌, ◌∙◌, ℕ, Some, length, drop, sym, ap, map, arith}
use Rattle.osal_price.specs.Price.{line_cost}
use Rattle.osal_price.specs.Saturated.{saturated, prices_of}
use Rattle.osal_script.specs.declared.item.Item.TheVariants as item
use Rattle.osal_script.specs.Saturated.{onto_saturated, repeated_saturated}
use Rattle.osal_script.specs.Cost.{level_costs}
use Rattle.osal_script.specs.Nesting.{depth_after}
use Rattle.osal_script.proofs.Nesting.{repeat_nested, end_nested}
use Rattle.osal_script.proofs.Costs.{length_saturated, nested_at, one_before, saturated-onto, saturated-repeated}
use Rattle.osal_script.proofs.cost.items_cost.Goals as goal

pub add-requires : goal.add-requires
add-requires c =
    let here = nested_at c.loop-at.at c.args.items.now c.requires in
    let many = length_saturated (prices_of c.args.prices.now) here.0 (drop c.loop-at.at c.args.items.now) here.2 in
    omega (arith, ap length c.loop-at.invariant.levels, many)

pub loop-at-preserved-in-Call : goal.loop-at-preserved-in-Call
loop-at-preserved-in-Call c =
    let items = c.args.items.now in
    let prices = prices_of c.args.prices.now in
    let line = c.in-Call.line in
    let rest = drop c.loop-at.at items in
    let cost = line_cost prices line.call in
    let before = one_before items c.loop-at.at c.index-items-at.result (item.Call line) (omega arith) (omega arith) c.index-items-at.is c.in-Call.is in
    record {
      within = omega arith;
      levels =
          c.add.ensures
          ∙ ap (λ (one : ℕ). onto_saturated one c.loop-at.levels) c.line_cost.ensures
          ∙ ap (onto_saturated (saturated cost)) c.loop-at.invariant.levels
          ∙ sym (saturated-onto cost (level_costs prices rest))
          ∙ ap (map saturated) (ap (level_costs prices) (sym before));
    }

pub repeat-requires : goal.repeat-requires
repeat-requires c =
    let items = c.args.items.now in
    let rest = drop c.loop-at.at items in
    let before = one_before items c.loop-at.at c.index-items-at.result (item.Repeat c.in-Repeat.count) (omega arith) (omega arith) c.index-items-at.is c.in-Repeat.is in
    let here = nested_at (c.loop-at.at - 1) items c.requires in
    let nested = rw before at here.2 in
    let many = length_saturated (prices_of c.args.prices.now) (here.0 + 1) rest (repeat_nested here.0 c.in-Repeat.count 0 rest nested).2 in
    omega (arith, ap length c.loop-at.invariant.levels, many)

pub loop-at-preserved-in-Repeat : goal.loop-at-preserved-in-Repeat
loop-at-preserved-in-Repeat c =
    let items = c.args.items.now in
    let costs = level_costs (prices_of c.args.prices.now) in
    let before = one_before items c.loop-at.at c.index-items-at.result (item.Repeat c.in-Repeat.count) (omega arith) (omega arith) c.index-items-at.is c.in-Repeat.is in
    record {
      within = omega arith;
      levels =
          c.repeat.ensures
          ∙ ap (repeated_saturated c.in-Repeat.count) c.loop-at.invariant.levels
          ∙ saturated-repeated c.in-Repeat.count (costs (drop c.loop-at.at items))
          ∙ ap (map saturated) (ap costs (sym before));
    }

pub end-requires : goal.end-requires
end-requires c =
    let items = c.args.items.now in
    let rest = drop c.loop-at.at items in
    let before = one_before items c.loop-at.at c.index-items-at.result item.End (omega arith) (omega arith) c.index-items-at.is c.in-End.is in
    let here = nested_at (c.loop-at.at - 1) items c.requires in
    let nested = rw before at here.2 in
    let both = end_nested here.0 0 rest nested in
    let many = length_saturated (prices_of c.args.prices.now) (here.0 - 1) rest both.1 in
    omega (arith, ap length c.loop-at.invariant.levels, many, both.0, here.1)

pub outermost-requires : goal.outermost-requires
outermost-requires c =
    let items = c.args.items.now in
    let all : c.loop-at.at ≡ 0 = omega arith in
    let nested : depth_after 0 (drop c.loop-at.at items) ≡ Some 0 = ap (λ (n : ℕ). depth_after 0 (drop n items)) all ∙ c.requires in
    let many = length_saturated (prices_of c.args.prices.now) 0 (drop c.loop-at.at items) nested in
    omega (arith, ap length c.loop-at.invariant.levels, many)
