-- Where repeats nest, the items are the flat list of a nesting.
use Rattle.std.proofs.Common.{◌≡◌, ◌<◌, ◌≤◌, ◌+◌, ◌-◌, ◌++◌, ◌∙◌, ℕ, List, [], ◌∷◌, Some, length, refl, sym, ap, subst, arith}
use Rattle.osal_line.specs.declared.line.Line.{Line}
use Rattle.osal_price.specs.Price.{Prices}
use Rattle.osal_script.specs.declared.item.Item.{Item}
use Rattle.osal_script.specs.declared.item.Item.TheVariants as item
use Rattle.osal_script.specs.App.{ScriptBody, first_of_levels, levels_of}
use Rattle.osal_script.specs.Cost.{first_cost, level_costs}
use Rattle.osal_script.specs.Nesting.{depth_after, IsNested}
use Rattle.osal_script.proofs.Nesting.{repeat_nested, end_nested}
use Rattle.osal_nested.specs.Nested.{Nested, Done, Then, Repeated, IsNestingOf, items_of, depth_in, HasTurns}
use Rattle.osal_nested.proofs.Flat.{repeat_before, lines_follow, cost_follows}

-- the flat list of the nestings of some levels, the innermost first: an end stands between each two of them
abbrev flat : Nested → List Nested → List Item
flat level [] = items_of level
flat level (around ∷ levels) = items_of level ++ (item.End ∷ flat around levels)

-- each level leaves room for the repeats that are open around it, of which the first has so many, and has turns
abbrev HaveRoom : ℕ → List Nested → Type 0
HaveRoom depth [] = Unit {0}
HaveRoom depth (level ∷ levels) = (depth + depth_in level ≤ 4) × HasTurns level × HaveRoom (depth - 1) levels

-- some items behind so many open repeats, level by level
record AreLevels (depth : ℕ) (items : List Item) (level : Nested) (around : List Nested) : Type 0 where
  flat : flat level around ≡ items
  count : length around ≡ depth
  room : HaveRoom depth (level ∷ around)

flat_call : (line : Line) (level : Nested) (around : List Nested) → flat (Then line level) around ≡ item.Call line ∷ flat level around
flat_call line level [] = refl
flat_call line level (next ∷ around) = refl

flat_repeat : (count : ℕ) (inside after : Nested) (around : List Nested) → flat (Repeated count inside after) around ≡ item.Repeat count ∷ flat inside (after ∷ around)
flat_repeat count inside after [] = refl
flat_repeat count inside after (next ∷ around) = repeat_before count inside after (item.End ∷ flat next around)

-- a call line goes to the front of the first level
with_call : (depth : ℕ) (line : Line) (items : List Item) (level : Nested) (around : List Nested) → AreLevels depth items level around → AreLevels depth (item.Call line ∷ items) (Then line level) around
with_call depth line items level around are = record {
  flat = flat_call line level around ∙ ap (λ (all : List Item). item.Call line ∷ all) are.flat;
  count = are.count;
  room = are.room;
}

-- the head of a repeat makes the first two levels one
with_repeat : (depth count : ℕ) (items : List Item) (level : Nested) (around : List Nested) → 0 < count → AreLevels (depth + 1) items level around → (first : Nested) × (others : List Nested) × AreLevels depth (item.Repeat count ∷ items) first others
with_repeat depth count items level [] turn are = absurd (omega (arith, are.count))
with_repeat depth count items level (next ∷ around) turn are =
    let room = are.room in
    let same : depth + 1 - 1 ≡ depth = omega arith in
    let after : HaveRoom depth (next ∷ around) = subst (λ (behind : ℕ). HaveRoom behind (next ∷ around)) same room.2 in (
      Repeated count level next,
      around,
      record {
        flat = flat_repeat count level next around ∙ ap (λ (all : List Item). item.Repeat count ∷ all) are.flat;
        count = omega (arith, are.count);
        room = (omega (arith, room.0, after.0), (turn, room.1, after.1), after.2);
      },
    )

-- an end begins a level
with_end : (depth : ℕ) (items : List Item) (level : Nested) (around : List Nested) → depth ≤ 4 → 0 < depth → AreLevels (depth - 1) items level around → AreLevels depth (item.End ∷ items) Done (level ∷ around)
with_end depth items level around deep some are = record {
  flat = ap (λ (all : List Item). item.End ∷ all) are.flat;
  count = omega (arith, are.count);
  room = (omega arith, tt, are.room);
}

-- items behind which all repeats that are open end are those of some levels
levels_of_items : (depth : ℕ) (items : List Item) → depth ≤ 4 → depth_after depth items ≡ Some 0 → (level : Nested) × (around : List Nested) × AreLevels depth items level around
levels_of_items depth [] deep nested =
    let none : depth ≡ 0 = cc in
    (Done, [], record { flat = refl; count = sym none; room = (omega arith, tt, tt) })
levels_of_items depth (item.Call line ∷ items) deep nested =
    let (level, around, are) = levels_of_items depth items deep nested in
    (Then line level, around, with_call depth line items level around are)
levels_of_items depth (item.Repeat count ∷ items) deep nested =
    let all = repeat_nested depth count 0 items nested in
    let (level, around, are) = levels_of_items (depth + 1) items (omega (arith, all.1)) all.2 in
    with_repeat depth count items level around all.0 are
levels_of_items depth (item.End ∷ items) deep nested =
    let both = end_nested depth 0 items nested in
    let (level, around, are) = levels_of_items (depth - 1) items (omega arith) both.1 in
    (Done, level ∷ around, with_end depth items level around deep both.0 are)

-- outside of any repeat that is one level
one_level : (items : List Item) (level : Nested) (around : List Nested) → AreLevels 0 items level around → (items_of level ≡ items) × (depth_in level ≤ 4) × HasTurns level
one_level items level [] are =
    let room = are.room in
    (are.flat, omega (arith, room.0), room.1)
one_level items level (next ∷ around) are = absurd (omega (arith, are.count))

-- a nesting of a body's items has its lines and its cost
is_nesting : (nested : Nested) (body : ScriptBody) → items_of nested ≡ body.items → depth_in nested ≤ 4 → HasTurns nested → IsNestingOf nested body
is_nesting nested body same deep turns = record {
  items = same;
  deep = deep;
  turns = turns;
  lines = ap (λ (items : List Item). first_of_levels (levels_of items)) (sym same) ∙ lines_follow nested;
  costs = λ (prices : Prices). ap (λ (items : List Item). first_cost (level_costs prices items)) (sym same) ∙ cost_follows prices nested;
}

-- the items of every body nest
pub body_nests : (body : ScriptBody) → IsNested body.items → (nested : Nested) × IsNestingOf nested body
body_nests body nested =
    let (level, around, are) = levels_of_items 0 body.items (omega arith) nested in
    let all = one_level body.items level around are in
    (level, is_nesting level body all.0 all.1 all.2)
