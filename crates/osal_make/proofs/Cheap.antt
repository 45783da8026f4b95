-- What the made application costs: 4,010 for each worker, and as much as 13 more for each in the first body.
use Rattle.std.proofs.Common.{◌≡◌, ◌≤◌, ◌+◌, ◌*◌, ◌-◌, ℕ, zero, suc, List, [], ◌∷◌, ◌++◌, map, get_or, refl, arith}
use Rattle.osal_price.specs.Price.{Prices}
use Rattle.osal_script.specs.declared.item.Item.{Item}
use Rattle.osal_script.specs.Cost.{onto_cost, level_costs, first_cost, body_cost, tick_cost, costs_from, cost_of}
use Rattle.osal_make.specs.MakeText.{counted, workers}
use Rattle.osal_make.specs.Items.{creation_item, waiting_items}
use Rattle.osal_make.specs.Made.{main_body, worker_body, made_app}
use Rattle.osal_make.proofs.Names.{message_is_short}

first_onto : (cost : ℕ) (levels : List ℕ) → first_cost (onto_cost cost levels) ≡ cost + first_cost levels
first_onto cost [] = omega arith
first_onto cost (level ∷ levels) = refl

worker_costs : (prices : Prices) (n k : ℕ) → 1 ≤ k → k ≤ 60 → body_cost prices (worker_body n k) ≡ 4010
worker_costs prices n k some few = rw (message_is_short k some few) refl

-- no body behind the first costs more
workers_cost : (tick number n m k i : ℕ) → 1 ≤ k → k + m ≤ 61 → get_or (costs_from tick number (map (worker_body n) (counted m k))) i 0 ≤ 4010
workers_cost tick number n zero k i some few = omega arith
workers_cost tick number n (suc m) k zero some few =
    let behind : List ℕ = costs_from tick (number + 1) (map (worker_body n) (counted m (k + 1))) in
    let prices : Prices = record { body = λ other. get_or behind (other - (number + 1)) 0; tick = tick } in
    omega (arith, worker_costs prices n k some (omega arith))
workers_cost tick number n (suc m) k (suc i) some few =
    workers_cost tick (number + 1) n m (k + 1) i (omega arith) (omega arith)

creations_cost : (prices : Prices) (m k : ℕ) (items : List Item) → ((j : ℕ) → prices.body j ≤ 4010) → first_cost (level_costs prices (map creation_item (counted m k) ++ items)) ≤ 4020 * m + first_cost (level_costs prices items)
creations_cost prices zero k items each = omega arith
creations_cost prices (suc m) k items each =
    let rest = creations_cost prices m (k + 1) items each in
    let here = first_onto (2 + (8 + prices.body k)) (level_costs prices (map creation_item (counted m (k + 1)) ++ items)) in
    omega (arith, each k)

-- the first body, where no other costs more
first_costs : (prices : Prices) (n : ℕ) → ((j : ℕ) → prices.body j ≤ 4010) → body_cost prices (main_body n) ≤ 4023 * n + 6
first_costs prices n each =
    let creations = creations_cost prices n 1 (waiting_items n) each in
    let begins = first_onto 2 (level_costs prices (map creation_item (workers n) ++ waiting_items n)) in
    omega arith

-- the application costs at most what a run may
pub made_cheap : (n : ℕ) → n ≤ 60 → cost_of (made_app n) ≤ 300000
made_cheap n few =
    let tick : ℕ = tick_cost (made_app n).bodies in
    let behind : List ℕ = costs_from tick 1 (map (worker_body n) (workers n)) in
    let prices : Prices = record { body = λ other. get_or behind (other - 1) 0; tick = tick } in
    omega (arith, first_costs prices n (λ j. workers_cost tick 1 n n 1 (j - 1) (omega arith) (omega arith)))
