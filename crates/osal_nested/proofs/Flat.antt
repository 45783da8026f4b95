-- What the flat list of nested items stands for, level by level, is what the nesting stands for, before the rest of its
-- level.
use Rattle.std.proofs.Common.{◌≡◌, ◌<◌, ◌≤◌, ◌+◌, ◌-◌, ◌*◌, ◌&&◌, ◌++◌, ◌∙◌, ℕ, List, [], ◌∷◌, Bool, true, cond, ltb, Some, None, option_and_then, refl, sym, ap, append_assoc, append-nil, arith}
use Rattle.std.proofs.lemmas.Bool.Decides.{nat_tests}
use Rattle.osal_line.specs.declared.line.Line.{Line}
use Rattle.osal_price.specs.Price.{Prices, line_cost}
use Rattle.osal_script.specs.declared.item.Item.{Item}
use Rattle.osal_script.specs.declared.item.Item.TheVariants as item
use Rattle.osal_script.specs.App.{times, first_of_levels, levels_of, onto_level, repeated}
use Rattle.osal_script.specs.Cost.{first_cost, level_costs, onto_cost, repeated_cost}
use Rattle.osal_script.specs.Nesting.{depth_after, IsNested}
use Rattle.osal_nested.specs.Nested.{Nested, Done, Then, Repeated, items_of, lines_in, cost_in, depth_in, HasTurns}

-- a repeat before what follows its nesting: what it repeats, its end, and what follows that
pub repeat_before : (count : ℕ) (inside after : Nested) (rest : List Item) → items_of (Repeated count inside after) ++ rest ≡ item.Repeat count ∷ (items_of inside ++ (item.End ∷ (items_of after ++ rest)))
repeat_before count inside after rest =
    ap (λ (items : List Item). item.Repeat count ∷ items) (append_assoc (items_of inside) (item.End ∷ items_of after) rest)

-- its lines in one level, before those of what follows
lines_repeated : (count : ℕ) (inside after level : List Line) (levels : List (List Line)) → repeated count ((inside ++ []) ∷ (after ++ level) ∷ levels) ≡ ((times count inside ++ after) ++ level) ∷ levels
lines_repeated count inside after level levels =
    ap (λ (lines : List Line). (times count lines ++ (after ++ level)) ∷ levels) (append-nil inside)
    ∙ ap (λ (lines : List Line). lines ∷ levels) (sym (append_assoc (times count inside) after level))

-- the lines of a nesting come before those of the level that follows it
pub lines_before : (nested : Nested) (rest : List Item) (level : List Line) (levels : List (List Line)) → levels_of rest ≡ level ∷ levels → levels_of (items_of nested ++ rest) ≡ (lines_in nested ++ level) ∷ levels
lines_before Done rest level levels same = same
lines_before (Then line after) rest level levels same = ap (onto_level line) (lines_before after rest level levels same)
lines_before (Repeated count inside after) rest level levels same =
    let behind = ap (λ (all : List (List Line)). [] ∷ all) (lines_before after rest level levels same) in
    let all = lines_before inside (item.End ∷ (items_of after ++ rest)) [] ((lines_in after ++ level) ∷ levels) behind in
    ap levels_of (repeat_before count inside after rest)
    ∙ ap (repeated count) all
    ∙ lines_repeated count (lines_in inside) (lines_in after) level levels

-- the lines of a flat list are those of its nesting
pub lines_follow : (nested : Nested) → first_of_levels (levels_of (items_of nested)) ≡ lines_in nested
lines_follow nested =
    ap (λ (items : List Item). first_of_levels (levels_of items)) (sym (append-nil (items_of nested)))
    ∙ ap first_of_levels (lines_before nested [] [] [] refl)
    ∙ append-nil (lines_in nested)

-- its cost in one level, before that of what follows
cost_repeated : (count inside after level : ℕ) (levels : List ℕ) → repeated_cost count ((inside + 0) ∷ (after + level) ∷ levels) ≡ ((count * inside + after) + level) ∷ levels
cost_repeated count inside after level levels = ap (λ (cost : ℕ). cost ∷ levels) (omega arith)

-- the cost of a nesting comes before that of the level that follows it
pub cost_before : (prices : Prices) (nested : Nested) (rest : List Item) (level : ℕ) (levels : List ℕ) → level_costs prices rest ≡ level ∷ levels → level_costs prices (items_of nested ++ rest) ≡ (cost_in prices nested + level) ∷ levels
cost_before prices Done rest level levels same = same ∙ ap (λ (cost : ℕ). cost ∷ levels) (omega arith)
cost_before prices (Then line after) rest level levels same =
    ap (onto_cost (line_cost prices line.call)) (cost_before prices after rest level levels same)
    ∙ ap (λ (cost : ℕ). cost ∷ levels) (omega arith)
cost_before prices (Repeated count inside after) rest level levels same =
    let behind = ap (λ (all : List ℕ). 0 ∷ all) (cost_before prices after rest level levels same) in
    let all = cost_before prices inside (item.End ∷ (items_of after ++ rest)) 0 ((cost_in prices after + level) ∷ levels) behind in
    ap (level_costs prices) (repeat_before count inside after rest)
    ∙ ap (repeated_cost count) all
    ∙ cost_repeated count (cost_in prices inside) (cost_in prices after) level levels

-- the cost of a flat list is that of its nesting
pub cost_follows : (prices : Prices) (nested : Nested) → first_cost (level_costs prices (items_of nested)) ≡ cost_in prices nested
cost_follows prices nested =
    ap (λ (items : List Item). first_cost (level_costs prices items)) (sym (append-nil (items_of nested)))
    ∙ ap first_cost (cost_before prices nested [] 0 [] refl)
    ∙ omega arith

-- a repeat with a turn may be open where fewer than four are
opens : (depth count : ℕ) (items : List Item) → 0 < count → depth < 4 → depth_after depth (item.Repeat count ∷ items) ≡ depth_after (depth + 1) items
opens depth count items turn room =
    let test : (ltb 0 count && ltb depth 4) ≡ true = grind (arith, nat_tests) in
    ap (λ (passes : Bool). option_and_then (λ behind. depth_after behind items) (cond passes (Some (depth + 1)) None)) test

-- its end leads back to as many
ends : (depth : ℕ) (items : List Item) → depth_after (depth + 1) (item.End ∷ items) ≡ depth_after depth items
ends depth items =
    let test : ltb 0 (depth + 1) ≡ true = grind (arith, nat_tests) in
    let same : depth + 1 - 1 ≡ depth = omega arith in
    ap (λ (passes : Bool). option_and_then (λ behind. depth_after behind items) (cond passes (Some (depth + 1 - 1)) None)) test
    ∙ ap (λ (behind : ℕ). depth_after behind items) same

-- as many repeats are open behind a nesting as before it
pub depth_before : (depth : ℕ) (nested : Nested) (rest : List Item) → depth + depth_in nested ≤ 4 → HasTurns nested → depth_after depth (items_of nested ++ rest) ≡ depth_after depth rest
depth_before depth Done rest deep turns = refl
depth_before depth (Then line after) rest deep turns = depth_before depth after rest deep turns
depth_before depth (Repeated count inside after) rest deep turns =
    ap (depth_after depth) (repeat_before count inside after rest)
    ∙ opens depth count (items_of inside ++ (item.End ∷ (items_of after ++ rest))) turns.0 (omega arith)
    ∙ depth_before (depth + 1) inside (item.End ∷ (items_of after ++ rest)) (omega arith) turns.1
    ∙ ends depth (items_of after ++ rest)
    ∙ depth_before depth after rest (omega arith) turns.2

-- what nests as deep as a body may, each repeat with a turn, is what a body may have as its items
pub items_nested : (nested : Nested) → depth_in nested ≤ 4 → HasTurns nested → IsNested (items_of nested)
items_nested nested deep turns =
    ap (depth_after 0) (sym (append-nil (items_of nested))) ∙ depth_before 0 nested [] (omega arith) turns
