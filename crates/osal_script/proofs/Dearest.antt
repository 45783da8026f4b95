-- The cost of the dearest handler, as 64 bits tell it.
use Rattle.std.proofs.Common.{◌≡◌, ◌<◌, ◌+◌, ◌-◌, ◌∙◌, ℕ, zero, suc, List, Some, drop, max, replicate, slice_get, slice_index, refl, sym, ap, arith}
use Rattle.std.proofs.Math.Path.{fun_ext}
use Rattle.osal_price.specs.declared.price.Prices as kept
use Rattle.osal_price.specs.Saturated.{saturated, prices_of}
use Rattle.osal_script.specs.App.{ScriptBody}
use Rattle.osal_script.specs.Cost.{no_prices, handler_cost, greatest_handler}
use Rattle.osal_script.proofs.Lists.{begins_with}

nothing_there : (n i : ℕ) → slice_index (replicate n 0) i ≡ 0
nothing_there zero i = refl
nothing_there (suc n) zero = refl
nothing_there (suc n) (suc i) = nothing_there n i

-- where nothing is kept, nothing costs anything
pub free_prices : (prices : kept.Prices) → prices ≡ record { bodies = replicate 64 0; tick = 0 } → prices_of prices ≡ no_prices
free_prices prices is =
    ap prices_of is
    ∙ ap (λ (body : ℕ → ℕ). record { body = body; tick = 0 }) (fun_ext (λ (number : ℕ). nothing_there 64 number))

-- the dearest of one handler more
pub one_handler : (bodies : List ScriptBody) (number told : ℕ) (body : ScriptBody) → 0 < number → slice_get bodies (number - 1) ≡ Some body → told ≡ saturated (greatest_handler (drop number bodies)) → max (saturated (handler_cost body.kind body.items)) told ≡ saturated (greatest_handler (drop (number - 1) bodies))
one_handler bodies number told body some is have =
    let next : number - 1 + 1 ≡ number = omega arith in
    let here = (begins_with bodies (number - 1) body is).1 in
    let cost = handler_cost body.kind body.items in
    let rest = greatest_handler (drop number bodies) in
    let both : max (saturated cost) told ≡ saturated (max cost rest) = omega arith in
    both
    ∙ sym (ap (λ (n : ℕ). saturated (max cost (greatest_handler (drop n bodies)))) next)
    ∙ sym (ap (λ (from : List ScriptBody). saturated (greatest_handler from)) here)
