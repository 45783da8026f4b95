use Rattle.std.proofs.Common.{◌≡◌, ◌∙◌, ap}
use Rattle.osal_line.specs.declared.kind.BodyKind.TheVariants as kind
use Rattle.osal_price.specs.Saturated.{saturated}
use Rattle.osal_script.specs.Cost.{first_cost, level_costs, no_prices, handler_cost}
use Rattle.osal_script.proofs.Dearest.{free_prices}
use Rattle.osal_script.proofs.cost.handler_cost.Goals as goal

pub returns-in-Handler : goal.returns-in-Handler
returns-in-Handler c =
    let free = free_prices c.of_tick.result c.of_tick.ensures in
    let is : kind.Handler ≡ c.args.body.now.kind = cc in
    c.items_cost.ensures
    ∙ ap (λ prices. saturated (first_cost (level_costs prices c.items.result.now))) free
    ∙ ap (λ items. saturated (first_cost (level_costs no_prices items))) c.items.ensures.value
    ∙ ap (λ runs. saturated (handler_cost runs c.args.body.now.items)) is
