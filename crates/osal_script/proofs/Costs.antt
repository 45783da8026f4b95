-- The costs of a body's items, level by level, and what 64 bits tell of them.
use Rattle.std.proofs.Common.{◌≡◌, ◌<◌, ◌≤◌, ◌+◌, ◌-◌, ◌*◌, ◌^◌, ◌∙◌, ℕ, zero, suc, List, [], ◌∷◌, Some, length, drop, get_or, map, min, inl, inr, refl, sym, ap, arith}
use Rattle.std.proofs.lemmas.Bool.{cases_lt}
use Rattle.std.proofs.lemmas.List.{drop_more, length-map}
use Rattle.osal_price.specs.Price.{Prices, line_cost}
use Rattle.osal_price.specs.Saturated.{saturated}
use Rattle.osal_script.specs.declared.item.Item.{Item}
use Rattle.osal_script.specs.declared.item.Item.TheVariants as item
use Rattle.osal_script.specs.Cost.{onto_cost, repeated_cost, level_costs}
use Rattle.osal_script.specs.Nesting.{depth_after, IsNested}
use Rattle.osal_script.specs.Saturated.{onto_saturated, repeated_saturated}
use Rattle.osal_script.proofs.Nesting.{repeat_nested, end_nested}

length_onto : (cost : ℕ) (levels : List ℕ) → 0 < length levels → length (onto_cost cost levels) ≡ length levels
length_onto cost [] some = absurd (omega arith)
length_onto cost (level ∷ levels) some = refl

length_repeated : (count : ℕ) (levels : List ℕ) → 1 < length levels → length (repeated_cost count levels) + 1 ≡ length levels
length_repeated count [] more = absurd (omega arith)
length_repeated count (level ∷ []) more = absurd (omega arith)
length_repeated count (level ∷ next ∷ levels) more = omega arith

-- items behind which so many repeats end have one level more
pub length_levels : (prices : Prices) (depth : ℕ) (items : List Item) → depth_after depth items ≡ Some 0 → length (level_costs prices items) ≡ depth + 1
length_levels prices depth [] nested =
    let none : depth ≡ 0 = cc in
    omega arith
length_levels prices depth (item.Call line ∷ items) nested =
    let levels = length_levels prices depth items nested in
    length_onto (line_cost prices line.call) (level_costs prices items) (omega (arith, levels)) ∙ levels
length_levels prices depth (item.Repeat count ∷ items) nested =
    let levels = length_levels prices (depth + 1) items (repeat_nested depth count 0 items nested).2 in
    omega (arith, levels, length_repeated count (level_costs prices items) (omega (arith, levels)))
length_levels prices depth (item.End ∷ items) nested =
    let both = end_nested depth 0 items nested in
    omega (arith, both.0, length_levels prices (depth - 1) items both.1)

-- as many as 64 bits tell of them
pub length_saturated : (prices : Prices) (depth : ℕ) (items : List Item) → depth_after depth items ≡ Some 0 → length (map saturated (level_costs prices items)) ≡ depth + 1
length_saturated prices depth items nested =
    length-map (level_costs prices items) saturated ∙ length_levels prices depth items nested

nested_from : (depth at : ℕ) (items : List Item) → depth ≤ 4 → depth_after depth items ≡ Some 0 → (here : ℕ) × (here ≤ 4) × (depth_after here (drop at items) ≡ Some 0)
nested_from depth zero items deep nested = (depth, deep, nested)
nested_from depth (suc at) [] deep nested = (depth, deep, nested)
nested_from depth (suc at) (item.Call line ∷ items) deep nested = nested_from depth at items deep nested
nested_from depth (suc at) (item.Repeat count ∷ items) deep nested =
    let all = repeat_nested depth count 0 items nested in
    nested_from (depth + 1) at items (omega (arith, all.1)) all.2
nested_from depth (suc at) (item.End ∷ items) deep nested =
    nested_from (depth - 1) at items (omega arith) (end_nested depth 0 items nested).1

-- at each item of a body at most four repeats are open
pub nested_at : (at : ℕ) (items : List Item) → IsNested items → (here : ℕ) × (here ≤ 4) × (depth_after here (drop at items) ≡ Some 0)
nested_at at items nested = nested_from 0 at items (omega arith) nested

-- the items from one before a place on
pub one_before : (items : List Item) (at : ℕ) (found as_item : Item) → 0 < at → at ≤ length items → found ≡ get_or items (at - 1) found → found ≡ as_item → drop (at - 1) items ≡ as_item ∷ drop at items
one_before items at found as_item some within read is =
    let next : at - 1 + 1 ≡ at = omega arith in
    drop_more items (at - 1) found (omega arith)
    ∙ ap (λ (x : Item). x ∷ drop (at - 1 + 1) items) (sym read ∙ is)
    ∙ ap (λ (n : ℕ). as_item ∷ drop n items) next

least_times : (n x most : ℕ) → min (n * min x most) most ≡ min (n * x) most
least_times zero x most = omega arith
least_times (suc n) x most =
    elim (cases_lt most x) [
      | inl more ↦
          let same : min x most ≡ most = omega arith in
          ap (λ (y : ℕ). min (suc n * y) most) same ∙ omega arith
      | inr within ↦
          let same : min x most ≡ x = omega arith in
          ap (λ (y : ℕ). min (suc n * y) most) same
    ]

least_sum : (x y most : ℕ) → min (min x most + min y most) most ≡ min (x + y) most
least_sum x y most = omega arith

-- a sum tells as much as the sum of what is told
pub saturated_sum : (cost other : ℕ) → saturated (saturated cost + saturated other) ≡ saturated (cost + other)
saturated_sum cost other = least_sum cost other (2 ^ 64 - 1)

-- a line costs as much by what 64 bits tell of it and of its level
pub saturated-onto : (cost : ℕ) (levels : List ℕ) → map saturated (onto_cost cost levels) ≡ onto_saturated (saturated cost) (map saturated levels)
saturated-onto cost [] = ap (λ (x : ℕ). x ∷ []) (omega arith)
saturated-onto cost (level ∷ levels) = ap (λ (x : ℕ). x ∷ map saturated levels) (sym (saturated_sum cost level))

-- a repeat costs as much by what 64 bits tell of its level
pub saturated-repeated : (count : ℕ) (levels : List ℕ) → repeated_saturated count (map saturated levels) ≡ map saturated (repeated_cost count levels)
saturated-repeated count [] = refl
saturated-repeated count (level ∷ []) = ap (λ (x : ℕ). x ∷ []) (least_times count level (2 ^ 64 - 1))
saturated-repeated count (level ∷ next ∷ levels) =
    ap (λ (x : ℕ). x ∷ map saturated levels)
    (ap (λ (x : ℕ). min (x + min next (2 ^ 64 - 1)) (2 ^ 64 - 1)) (least_times count level (2 ^ 64 - 1))
    ∙ least_sum (count * level) next (2 ^ 64 - 1))
