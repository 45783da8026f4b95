use Rattle.std.proofs.Common.{◌≡◌, ◌+◌, ◌-◌, ◌∙◌, ℕ, ap, sym, subst, length-set, set, arith}
use Rattle.osal_price.specs.Saturated.{saturated, prices_of}
use Rattle.osal_script.specs.Cost.{first_cost, level_costs, tick_cost}
use Rattle.osal_script.proofs.Bodies.{HaveCosts, one_cost}
use Rattle.osal_script.proofs.body.App.cost.Goals as goal

pub loop-number-preserved : goal.loop-number-preserved
loop-number-preserved c =
    let prices = c.loop-number.prices in
    let bodies = c.args.self.now.bodies in
    let tick = tick_cost bodies in
    let number = c.loop-number.number - 1 in
    let next : c.loop-number.number ≡ number + 1 = omega arith in
    let have = subst (λ (n : ℕ). HaveCosts tick prices.bodies n bodies) next c.loop-number.invariant.have in
    let items = c.items.ensures.value in
    let cost : c.saturating_add.result ≡ saturated (saturated (first_cost (level_costs (prices_of prices) c.body.result.now.items)) + 2) =
    c.saturating_add.ensures
    ∙ ap (λ (n : ℕ). saturated (n + 2)) (c.items_cost-items.ensures ∙ ap (λ x. saturated (first_cost (level_costs (prices_of prices) x))) items) in
    record {
      within = omega arith;
      room = length-set prices.bodies number c.saturating_add.result ∙ c.loop-number.invariant.room;
      tick = c.loop-number.invariant.tick;
      have = subst (λ (n : ℕ). HaveCosts tick (set prices.bodies number n) number bodies) (sym cost) (one_cost tick prices number bodies c.body.result.now c.loop-number.invariant.tick (omega arith) c.bodies-number.ensures.later c.body.ensures have);
    }
