-- Costs as a number of 64 bits tells them: a greater one as the greatest.
use Rattle.std.specs.Prelude.{◌-◌, ◌^◌, ℕ, min, slice_index}
use Rattle.osal_price.specs.declared.price.Prices as kept
use Rattle.osal_price.specs.Price.{Prices}

-- a cost, or the greatest number of 64 bits
abbrev pub saturated : ℕ → ℕ
saturated cost = min cost (2 ^ 64 - 1)

-- the prices that are kept: the cost of each body, and that of a tick's handlers
abbrev pub prices_of : kept.Prices → Prices
prices_of prices = record { body = slice_index prices.bodies; tick = prices.tick }
