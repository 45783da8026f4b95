-- A step over a repeat in which no call line stands.
use Rattle.std.proofs.Common.{◌≡◌, ◌<◌, ◌≤◌, ◌+◌, ◌-◌, ◌++◌, ◌∙◌, ℕ, zero, suc, List, [], ◌∷◌, Some, length, drop, slice_get, refl, sym, ap, subst, add-one, arith}
use Rattle.std.proofs.Math.Seq.{drop-nil}
use Rattle.std.proofs.lemmas.List.{drop-drop, length-drop}
use Rattle.osal_line.specs.declared.line.Line.{Line}
use Rattle.osal_script.specs.declared.item.Item.{Item}
use Rattle.osal_script.specs.declared.item.Item.TheVariants as item
use Rattle.osal_script.specs.declared.walk.Turn.{Turn}
use Rattle.osal_script.specs.declared.walk.Place.{Place}
use Rattle.osal_script.specs.App.{times, first_of_levels, levels_of, repeated}
use Rattle.osal_script.specs.Cost.{first_cost}
use Rattle.osal_script.specs.Empty.{empty_end_from}
use Rattle.osal_script.specs.Nesting.{depth_after}
use Rattle.osal_script.specs.Steps.{step_levels, repeated_steps, steps_from}
use Rattle.osal_script.specs.Walk.{around, lines_from, open_at}
use Rattle.osal_script.specs.Place.{IsPlace, IsPassed, AreOpen}
use Rattle.osal_script.proofs.Lists.{begins_with}
use Rattle.osal_script.proofs.Nesting.{end_nested, repeat_nested}
use Rattle.osal_script.proofs.Levels.{levels_some, steps_some, around_steps, open_same}
use Rattle.osal_script.proofs.Passing.{may_enter}

-- no lines are none, however often they are repeated
times_none : (count : ℕ) → times {A = Line} count [] ≡ []
times_none zero = refl
times_none (suc count) = times_none count

-- so many levels without a line, and others around them
abbrev bare : ℕ → List (List Line) → List (List Line)
bare zero levels = levels
bare (suc depth) levels = [] ∷ bare depth levels

repeated_bare : (count depth : ℕ) (levels : List (List Line)) → repeated count ([] ∷ [] ∷ bare depth levels) ≡ [] ∷ bare depth levels
repeated_bare count depth levels =
    ap (λ (lines : List Line). (lines ++ []) ∷ bare depth levels) (times_none count)

-- what stands behind the end of a repeat without a call line, where so many repeats are open within it
record IsBehind (all : List Item) (end depth : ℕ) (items : List Item) : Type 0 where
  pub within : end ≤ length all
  pub lines : levels_of items ≡ bare (suc depth) (levels_of (drop end all))
  pub steps : drop (suc depth) (step_levels items) ≡ step_levels (drop end all)
  pub nested : (outer : ℕ) → depth_after (outer + suc depth) items ≡ Some 0 → depth_after outer (drop end all) ≡ Some 0

drop_step : (depth count : ℕ) (levels : List ℕ) → drop (suc depth) (repeated_steps count levels) ≡ drop (suc (suc depth)) levels
drop_step depth count [] = refl
drop_step depth count (level ∷ []) = drop-nil depth
drop_step depth count (level ∷ next ∷ levels) = refl

two_more : (outer depth : ℕ) → outer + suc (suc depth) ≡ outer + suc depth + 1
two_more outer depth = omega arith

one_less : (outer depth : ℕ) → outer + suc depth ≡ outer + suc (suc depth) - 1
one_less outer depth = omega arith

none_less : (outer : ℕ) → outer ≡ outer + 1 - 1
none_less outer = omega arith

next_behind : (all : List Item) (at : ℕ) (first : Item) (items : List Item) → drop at all ≡ first ∷ items → drop (at + 1) all ≡ items
next_behind all at first items from = sym (drop-drop 1 at all) ∙ ap (drop 1) from

behind_end : (all : List Item) (at end depth : ℕ) (items : List Item) → drop at all ≡ items → empty_end_from at depth items ≡ Some end → IsBehind all end depth items
behind_end all at end depth [] from is = cc
behind_end all at end depth (item.Call line ∷ items) from is = cc
behind_end all at end depth (item.Repeat count ∷ items) from is =
    let deeper = ap (λ (n : ℕ). empty_end_from (at + 1) n items) (sym (add-one depth)) ∙ is in
    let behind = behind_end all (at + 1) end (suc depth) items (next_behind all at (item.Repeat count) items from) deeper in
    record {
      within = behind.within;
      lines = ap (repeated count) behind.lines ∙ repeated_bare count depth (levels_of (drop end all));
      steps = drop_step depth count (step_levels items) ∙ behind.steps;
      nested =
          λ outer nested. behind.nested outer (ap (λ (n : ℕ). depth_after n items) (two_more outer depth) ∙ (repeat_nested (outer + suc depth) count 0 items nested).2);
    }
behind_end all at end zero (item.End ∷ items) from is =
    let next = next_behind all at item.End items from in
    let here : at + 1 ≡ end = cc in
    let rest : drop end all ≡ items = ap (λ (n : ℕ). drop n all) (sym here) ∙ next in
    let many = sym (length-drop at all) ∙ ap length from in
    record {
      within = omega (arith, here, many);
      lines = ap (λ (behind : List Item). [] ∷ levels_of behind) (sym rest);
      steps = ap step_levels (sym rest);
      nested =
          λ outer nested. ap (depth_after outer) rest ∙ ap (λ (n : ℕ). depth_after n items) (none_less outer) ∙ (end_nested (outer + 1) 0 items nested).1;
    }
behind_end all at end (suc depth) (item.End ∷ items) from is =
    let behind = behind_end all (at + 1) end depth items (next_behind all at item.End items from) is in
    record {
      within = behind.within;
      lines = ap (λ (levels : List (List Line)). [] ∷ levels) behind.lines;
      steps = behind.steps;
      nested =
          λ outer nested. behind.nested outer (ap (λ (n : ℕ). depth_after n items) (one_less outer depth) ∙ (end_nested (outer + suc (suc depth)) 0 items nested).1);
    }

around_drop : (levels : List ℕ) → around levels ≡ drop 1 levels
around_drop [] = refl
around_drop (level ∷ levels) = refl

-- behind a repeat without a call line come the same lines
lines_empty : (count : ℕ) (levels : List (List Line)) → levels ≡ first_of_levels levels ∷ around levels → repeated count ([] ∷ levels) ≡ levels
lines_empty count levels some =
    subst (λ (those : List (List Line)). repeated count ([] ∷ those) ≡ those) (sym some)
    (ap (λ (lines : List Line). (lines ++ first_of_levels levels) ∷ around levels) (times_none count))

-- fewer steps in the first level are fewer steps
steps_less : (items : List Item) (turns : List Turn) (here there : List ℕ) → around here ≡ around there → first_cost here < first_cost there → steps_from items turns here < steps_from items turns there
steps_less items [] here there same less = less
steps_less items (turn ∷ turns) here there same less = rw same (omega (arith, less))

-- a repeat takes at least one step
steps_empty : (count level : ℕ) (levels : List ℕ) → levels ≡ first_cost levels ∷ around levels → first_cost levels < first_cost (repeated_steps count (level ∷ levels))
steps_empty count level levels some =
    subst (λ (those : List ℕ). first_cost those < first_cost (repeated_steps count (level ∷ those))) (sym some) (omega arith)

-- a step over a repeat without a call line
pub empty_passed : (items : List Item) (place : Place) (count end : ℕ) → IsPlace items place → slice_get items place.at ≡ Some (item.Repeat count) → empty_end_from (place.at + 1) 0 (drop (place.at + 1) items) ≡ Some end → IsPassed items place (record { at = end; depth = place.depth; turns = place.turns })
empty_passed items place count end stands is empty =
    let inside = drop (place.at + 1) items in
    let rest = drop end items in
    let turns = open_at place in
    let found = begins_with items place.at (item.Repeat count) is in
    let behind = behind_end items (place.at + 1) end 0 inside refl empty in
    let lines : levels_of (drop place.at items) ≡ levels_of rest =
    ap levels_of found.1 ∙ ap (repeated count) behind.lines ∙ lines_empty count (levels_of rest) (levels_some rest) in
    let inside_steps : step_levels inside ≡ first_cost (step_levels inside) ∷ step_levels rest =
    steps_some inside ∙ ap (λ (levels : List ℕ). first_cost (step_levels inside) ∷ levels) (around_drop (step_levels inside) ∙ behind.steps) in
    let steps : step_levels (drop place.at items) ≡ repeated_steps count (first_cost (step_levels inside) ∷ step_levels rest) =
    ap step_levels found.1 ∙ ap (repeated_steps count) inside_steps in
    let beside : around (step_levels (drop place.at items)) ≡ around (step_levels rest) =
    ap around steps ∙ around_steps count (first_cost (step_levels inside) ∷ step_levels rest) in
    record {
      within = record {
        within = behind.within;
        room = stands.room;
        deep = stands.deep;
        nested = behind.nested place.depth (may_enter items place count stands is).2;
        starts = stands.starts;
        lines = subst (AreOpen levels_of items turns) lines stands.lines;
        steps = open_same step_levels items turns _ (step_levels rest) beside stands.steps;
      };
      lines = ap (lines_from items turns) (sym lines);
      fewer = steps_less items turns _ _ (sym beside) (subst (λ (levels : List ℕ). first_cost (step_levels rest) < first_cost levels) (sym steps) (steps_empty count (first_cost (step_levels inside)) (step_levels rest) (steps_some rest)));
    }
