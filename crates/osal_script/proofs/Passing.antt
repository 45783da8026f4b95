-- A step over the head or the end of a repeat.
use Rattle.std.proofs.Common.{◌≡◌, ◌<◌, ◌≤◌, ◌+◌, ◌-◌, ◌∙◌, ℕ, suc, List, [], ◌∷◌, true, ltb, Some, length, take, drop, reverse, set, get_or, slice_get, refl, sym, ap, add-one, arith}
use Rattle.std.proofs.lemmas.List.{length-set, length-reverse, length-take-le}
use Rattle.std.proofs.lemmas.Option.{slice_get_read}
use Rattle.std.proofs.lemmas.Bool.Decides.{nat_tests}
use Rattle.osal_line.specs.declared.line.Line.{Line}
use Rattle.osal_script.specs.declared.item.Item.{Item}
use Rattle.osal_script.specs.declared.item.Item.TheVariants as item
use Rattle.osal_script.specs.declared.walk.Turn.{Turn}
use Rattle.osal_script.specs.declared.walk.Place.{Place}
use Rattle.osal_script.specs.App.{levels_of, repeated}
use Rattle.osal_script.specs.Nesting.{depth_after}
use Rattle.osal_script.specs.Steps.{step_levels, repeated_steps, steps_from}
use Rattle.osal_script.specs.Walk.{around, lines_at, lines_from, open_at}
use Rattle.osal_script.specs.Place.{IsPlace, IsPassed}
use Rattle.osal_script.proofs.Lists.{begins_with, one_more, innermost}
use Rattle.osal_script.proofs.Nesting.{repeat_nested, end_nested}
use Rattle.osal_script.proofs.Levels.{lines_repeat, steps_repeat, lines_last, steps_last, lines_again, steps_again, lines_call, around_call, around_cost, around_repeat, around_steps, open_same, open_again}

-- what a look-up found stands there
pub found_at : (items : List Item) (at : ℕ) (found as_item : Item) → true ≡ ltb at (length items) → found ≡ get_or items at found → found ≡ as_item → slice_get items at ≡ Some as_item
found_at items at found as_item test read is =
    slice_get_read items (length items) at found refl (grind (arith, nat_tests)) read ∙ ap Some is

-- a number is less than another as those that they are
less_same : (a b c d : ℕ) → a ≡ c → b ≡ d → c < d → a < b
less_same a b c d first second less = omega arith

-- as many repeats are open as the place says
pub length_open : (place : Place) → length place.turns ≡ 4 → place.depth ≤ 4 → length (open_at place) ≡ place.depth
length_open place room deep =
    length-reverse (take place.depth place.turns) ∙ length-take-le place.depth place.turns (omega arith)

-- the line at a place comes before those behind it
pub call_first : (items : List Item) (place : Place) (line : Line) → slice_get items place.at ≡ Some (item.Call line) → lines_at items place ≡ line ∷ lines_at items (record place { at = place.at + 1 })
call_first items place line is =
    ap (λ (from : List Item). lines_from items (open_at place) (levels_of from)) (begins_with items place.at (item.Call line) is).1
    ∙ lines_call items (open_at place) line (levels_of (drop (place.at + 1) items))

-- behind the line the same repeats are open
pub call_behind : (items : List Item) (place : Place) (line : Line) → IsPlace items place → slice_get items place.at ≡ Some (item.Call line) → IsPlace items (record place { at = place.at + 1 })
call_behind items place line stands is =
    let rest = drop (place.at + 1) items in
    let turns = open_at place in
    let found = begins_with items place.at (item.Call line) is in
    record {
      within = omega (arith, found.0);
      room = stands.room;
      deep = stands.deep;
      nested = rw found.1 at stands.nested;
      starts = stands.starts;
      lines = open_same levels_of items turns _ (levels_of rest) (ap around (ap levels_of found.1) ∙ around_call line (levels_of rest)) stands.lines;
      steps = open_same step_levels items turns _ (step_levels rest) (ap around (ap step_levels found.1) ∙ around_cost 1 (step_levels rest)) stands.steps;
    }

-- where a repeat begins, one more may be open
pub may_enter : (items : List Item) (place : Place) (count : ℕ) → IsPlace items place → slice_get items place.at ≡ Some (item.Repeat count) → (0 < count) × (place.depth < 4) × (depth_after (place.depth + 1) (drop (place.at + 1) items) ≡ Some 0)
may_enter items place count stands is =
    let nested = rw (begins_with items place.at (item.Repeat count) is).1 at stands.nested in
    repeat_nested place.depth count 0 (drop (place.at + 1) items) nested

-- a step over the head of a repeat
pub entered_passed : (items : List Item) (place : Place) (count : ℕ) → IsPlace items place → slice_get items place.at ≡ Some (item.Repeat count) → IsPassed items place (record { at = place.at + 1; depth = place.depth + 1; turns = set place.turns place.depth (record { start = place.at + 1; left = count - 1 }) })
entered_passed items place count stands is =
    let rest = drop (place.at + 1) items in
    let turn : Turn = record { start = place.at + 1; left = count - 1 } in
    let turns = open_at place in
    let found = begins_with items place.at (item.Repeat count) is in
    let may = may_enter items place count stands is in
    let all : suc turn.left ≡ count = omega (arith, may.0) in
    let opens = one_more place.turns place.depth turn (omega (arith, may.1, stands.room)) in
    let many = length_open place stands.room stands.deep in
    let lines = open_same levels_of items turns _ (around (levels_of rest)) (ap around (ap levels_of found.1) ∙ around_repeat count (levels_of rest)) stands.lines in
    let steps = open_same step_levels items turns _ (around (step_levels rest)) (ap around (ap step_levels found.1) ∙ around_steps count (step_levels rest)) stands.steps in
    record {
      within = record {
        within = omega (arith, found.0);
        room = length-set place.turns place.depth turn ∙ stands.room;
        deep = omega (arith, may.1);
        nested = may.2;
        starts = rw opens (omega (arith, found.0), ap (λ (n : ℕ). depth_after (n + 1) rest) many ∙ may.2, stands.starts);
        lines = rw opens (refl, lines);
        steps = rw opens (refl, steps);
      };
      lines =
          ap (λ (open_now : List Turn). lines_from items open_now (levels_of rest)) opens
          ∙ lines_repeat items turn turns
          ∙ ap (λ (n : ℕ). lines_from items turns (repeated n (levels_of rest))) all
          ∙ ap (λ (from : List Item). lines_from items turns (levels_of from)) (sym found.1);
      fewer =
          less_same _ _ _ _
          (ap (λ (open_now : List Turn). steps_from items open_now (step_levels rest)) opens)
          (ap (λ (from : List Item). steps_from items turns (step_levels from)) found.1
          ∙ ap (λ (n : ℕ). steps_from items turns (repeated_steps n (step_levels rest))) (sym all))
          (steps_repeat items turn turns);
    }

-- where a repeat ends, one is open
pub may_turn : (items : List Item) (place : Place) → IsPlace items place → slice_get items place.at ≡ Some item.End → (0 < place.depth) × (depth_after (place.depth - 1) (drop (place.at + 1) items) ≡ Some 0)
may_turn items place stands is =
    let nested = rw (begins_with items place.at item.End is).1 at stands.nested in
    end_nested place.depth 0 (drop (place.at + 1) items) nested

-- the innermost repeat that is open at a place
abbrev pub turn_at : Place → Turn
turn_at place = get_or place.turns (place.depth - 1) (record { start = 0; left = 0 })

-- the repeats around it
abbrev pub turns_around : Place → List Turn
turns_around place = reverse (take (place.depth - 1) place.turns)

place_open : (place : Place) → length place.turns ≡ 4 → place.depth ≤ 4 → 0 < place.depth → open_at place ≡ turn_at place ∷ turns_around place
place_open place room deep some =
    let less : place.depth ≡ place.depth - 1 + 1 = omega arith in
    ap (λ (depth : ℕ). reverse (take depth place.turns)) less
    ∙ innermost place.turns (place.depth - 1) (record { start = 0; left = 0 }) (omega arith)

-- a step over the end of a repeat's last turn
pub left_passed : (items : List Item) (place : Place) → IsPlace items place → slice_get items place.at ≡ Some item.End → (turn_at place).left ≡ 0 → IsPassed items place (record { at = place.at + 1; depth = place.depth - 1; turns = place.turns })
left_passed items place stands is last =
    let rest = drop (place.at + 1) items in
    let found = begins_with items place.at item.End is in
    let may = may_turn items place stands is in
    let opens = place_open place stands.room stands.deep may.0 in
    let starts = rw opens at stands.starts in
    let lines = rw (opens, found.1) at stands.lines in
    let steps = rw (opens, found.1) at stands.steps in
    record {
      within = record {
        within = omega (arith, found.0);
        room = stands.room;
        deep = omega (arith, stands.deep);
        nested = may.1;
        starts = starts.2;
        lines = lines.1;
        steps = steps.1;
      };
      lines =
          lines_last items (turn_at place) (turns_around place) (levels_of rest) last
          ∙ ap (λ (open_now : List Turn). lines_from items open_now ([] ∷ levels_of rest)) (sym opens)
          ∙ ap (λ (from : List Item). lines_from items (open_at place) (levels_of from)) (sym found.1);
      fewer =
          less_same _ _ _ _ refl
          (ap (λ (open_now : List Turn). steps_from items open_now (step_levels (drop place.at items))) opens
          ∙ ap (λ (from : List Item). steps_from items (turn_at place ∷ turns_around place) (step_levels from)) found.1)
          (steps_last items (turn_at place) (turns_around place) (step_levels rest));
    }

-- a step from the end of a turn to the start of the next
pub turned_passed : (items : List Item) (place : Place) → IsPlace items place → slice_get items place.at ≡ Some item.End → 0 < (turn_at place).left → IsPassed items place (record { at = (turn_at place).start; depth = place.depth; turns = set place.turns (place.depth - 1) (record { start = (turn_at place).start; left = (turn_at place).left - 1 }) })
turned_passed items place stands is more =
    let rest = drop (place.at + 1) items in
    let turn = turn_at place in
    let next : Turn = record { start = turn.start; left = turn.left - 1 } in
    let turns = turns_around place in
    let found = begins_with items place.at item.End is in
    let may = may_turn items place stands is in
    let opens = place_open place stands.room stands.deep may.0 in
    let same : place.depth ≡ place.depth - 1 + 1 = omega (arith, may.0) in
    let opens_next : reverse (take place.depth (set place.turns (place.depth - 1) next)) ≡ next ∷ turns =
    ap (λ (depth : ℕ). reverse (take depth (set place.turns (place.depth - 1) next))) same
    ∙ one_more place.turns (place.depth - 1) next (omega (arith, may.0, stands.deep, stands.room)) in
    let starts = rw opens at stands.starts in
    let lines = rw (opens, found.1) at stands.lines in
    let steps = rw (opens, found.1) at stands.steps in
    let many : length turns + 1 ≡ place.depth = add-one (length turns) ∙ sym (ap length opens) ∙ length_open place stands.room stands.deep in
    let left : suc next.left ≡ turn.left = omega (arith, more) in
    record {
      within = record {
        within = starts.0;
        room = length-set place.turns (place.depth - 1) next ∙ stands.room;
        deep = stands.deep;
        nested = ap (λ (n : ℕ). depth_after n (drop turn.start items)) (sym many) ∙ starts.1;
        starts = rw opens_next starts;
        lines = rw opens_next (open_again levels_of items turn next turns ([] ∷ levels_of rest) refl lines);
        steps = rw opens_next (open_again step_levels items turn next turns (0 ∷ step_levels rest) refl steps);
      };
      lines =
          ap (λ (open_now : List Turn). lines_from items open_now (levels_of (drop turn.start items))) opens_next
          ∙ lines_again items turn turns next.left (levels_of rest) left lines.0
          ∙ ap (λ (open_now : List Turn). lines_from items open_now ([] ∷ levels_of rest)) (sym opens)
          ∙ ap (λ (from : List Item). lines_from items (open_at place) (levels_of from)) (sym found.1);
      fewer =
          less_same _ _ _ _
          (ap (λ (open_now : List Turn). steps_from items open_now (step_levels (drop turn.start items))) opens_next)
          (ap (λ (open_now : List Turn). steps_from items open_now (step_levels (drop place.at items))) opens
          ∙ ap (λ (from : List Item). steps_from items (turn ∷ turns) (step_levels from)) found.1)
          (steps_again items turn turns next.left (step_levels rest) left steps.0);
    }
