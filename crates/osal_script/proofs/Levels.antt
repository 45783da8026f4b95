-- One item further, the same lines come, or one less, and fewer steps.
use Rattle.std.proofs.Common.{◌≡◌, ◌<◌, ◌++◌, ◌∙◌, ℕ, suc, List, [], ◌∷◌, drop, refl, sym, ap, subst, append_assoc, arith}
use Rattle.std.proofs.lemmas.List.{append-nil}
use Rattle.osal_line.specs.declared.line.Line.{Line}
use Rattle.osal_script.specs.declared.item.Item.{Item}
use Rattle.osal_script.specs.declared.item.Item.TheVariants as item
use Rattle.osal_script.specs.declared.walk.Turn.{Turn}
use Rattle.osal_script.specs.App.{times, first_of_levels, levels_of, onto_level, repeated}
use Rattle.osal_script.specs.Cost.{first_cost, onto_cost}
use Rattle.osal_script.specs.Steps.{step_levels, repeated_steps, steps_from}
use Rattle.osal_script.specs.Walk.{around, lines_from}
use Rattle.osal_script.specs.Place.{AreOpen}

onto_some : (line : Line) (levels : List (List Line)) → onto_level line levels ≡ first_of_levels (onto_level line levels) ∷ around (onto_level line levels)
onto_some line [] = refl
onto_some line (level ∷ levels) = refl

repeated_some : (count : ℕ) (level : List Line) (levels : List (List Line)) → repeated count (level ∷ levels) ≡ first_of_levels (repeated count (level ∷ levels)) ∷ around (repeated count (level ∷ levels))
repeated_some count level [] = refl
repeated_some count level (next ∷ levels) = refl

-- some items have at least one level
pub levels_some : (items : List Item) → levels_of items ≡ first_of_levels (levels_of items) ∷ around (levels_of items)
levels_some [] = refl
levels_some (item.Call line ∷ items) = onto_some line (levels_of items)
levels_some (item.Repeat count ∷ items) =
    let both = λ (levels : List (List Line)). repeated count levels ≡ first_of_levels (repeated count levels) ∷ around (repeated count levels) in
    subst both (sym (levels_some items)) (repeated_some count (first_of_levels (levels_of items)) (around (levels_of items)))
levels_some (item.End ∷ items) = refl

onto_cost_some : (cost : ℕ) (levels : List ℕ) → onto_cost cost levels ≡ first_cost (onto_cost cost levels) ∷ around (onto_cost cost levels)
onto_cost_some cost [] = refl
onto_cost_some cost (level ∷ levels) = refl

repeated_steps_some : (count level : ℕ) (levels : List ℕ) → repeated_steps count (level ∷ levels) ≡ first_cost (repeated_steps count (level ∷ levels)) ∷ around (repeated_steps count (level ∷ levels))
repeated_steps_some count level [] = refl
repeated_steps_some count level (next ∷ levels) = refl

-- their steps have as many levels
pub steps_some : (items : List Item) → step_levels items ≡ first_cost (step_levels items) ∷ around (step_levels items)
steps_some [] = refl
steps_some (item.Call line ∷ items) = onto_cost_some 1 (step_levels items)
steps_some (item.Repeat count ∷ items) =
    let both = λ (levels : List ℕ). repeated_steps count levels ≡ first_cost (repeated_steps count levels) ∷ around (repeated_steps count levels) in
    subst both (sym (steps_some items)) (repeated_steps_some count (first_cost (step_levels items)) (around (step_levels items)))
steps_some (item.End ∷ items) = refl

-- a call line comes before the others
pub lines_call : (items : List Item) (turns : List Turn) (line : Line) (levels : List (List Line)) → lines_from items turns (onto_level line levels) ≡ line ∷ lines_from items turns levels
lines_call items [] line [] = refl
lines_call items [] line (level ∷ levels) = refl
lines_call items (turn ∷ turns) line [] = refl
lines_call items (turn ∷ turns) line (level ∷ levels) = refl

lines_in : (items : List Item) (turn : Turn) (turns : List Turn) (level : List Line) (levels : List (List Line)) → first_of_levels (levels_of (drop turn.start items)) ≡ level → lines_from items (turn ∷ turns) (level ∷ levels) ≡ lines_from items turns (repeated (suc turn.left) (level ∷ levels))
lines_in items turn [] level [] same =
    ap (λ (lines : List Line). level ++ lines) (append-nil (times turn.left (first_of_levels (levels_of (drop turn.start items)))) ∙ ap (times turn.left) same)
lines_in items turn [] level (next ∷ levels) same = rw same (sym (append_assoc level (times turn.left level) next))
lines_in items turn (other ∷ turns) level [] same = rw same (sym (append_assoc level (times turn.left level) _))
lines_in items turn (other ∷ turns) level (next ∷ levels) same = rw same (simp append_assoc)

-- behind the head of a repeat come its turns
pub lines_repeat : (items : List Item) (turn : Turn) (turns : List Turn) → lines_from items (turn ∷ turns) (levels_of (drop turn.start items)) ≡ lines_from items turns (repeated (suc turn.left) (levels_of (drop turn.start items)))
lines_repeat items turn turns =
    let levels = levels_of (drop turn.start items) in
    let same = λ (all : List (List Line)). lines_from items (turn ∷ turns) all ≡ lines_from items turns (repeated (suc turn.left) all) in
    subst same (sym (levels_some (drop turn.start items))) (lines_in items turn turns (first_of_levels levels) (around levels) refl)

steps_in : (items : List Item) (turn : Turn) (turns : List Turn) (level : ℕ) (levels : List ℕ) → first_cost (step_levels (drop turn.start items)) ≡ level → steps_from items (turn ∷ turns) (level ∷ levels) < steps_from items turns (repeated_steps (suc turn.left) (level ∷ levels))
steps_in items turn [] level [] same = rw same (omega arith)
steps_in items turn [] level (next ∷ levels) same = rw same (omega arith)
steps_in items turn (other ∷ turns) level [] same = rw same (omega arith)
steps_in items turn (other ∷ turns) level (next ∷ levels) same = rw same (omega arith)

-- and one step less
pub steps_repeat : (items : List Item) (turn : Turn) (turns : List Turn) → steps_from items (turn ∷ turns) (step_levels (drop turn.start items)) < steps_from items turns (repeated_steps (suc turn.left) (step_levels (drop turn.start items)))
steps_repeat items turn turns =
    let levels = step_levels (drop turn.start items) in
    let less = λ (all : List ℕ). steps_from items (turn ∷ turns) all < steps_from items turns (repeated_steps (suc turn.left) all) in
    subst less (sym (steps_some (drop turn.start items))) (steps_in items turn turns (first_cost levels) (around levels) refl)

-- the end of a repeat's last turn leads behind the repeat
pub lines_last : (items : List Item) (turn : Turn) (turns : List Turn) (levels : List (List Line)) → turn.left ≡ 0 → lines_from items turns levels ≡ lines_from items (turn ∷ turns) ([] ∷ levels)
lines_last items turn turns levels last = rw last refl

-- the end of another turn leads to the start of the next one
pub lines_again : (items : List Item) (turn : Turn) (turns : List Turn) (left : ℕ) (levels : List (List Line)) → suc left ≡ turn.left → levels ≡ around (levels_of (drop turn.start items)) → lines_from items (record turn { left = left } ∷ turns) (levels_of (drop turn.start items)) ≡ lines_from items (turn ∷ turns) ([] ∷ levels)
lines_again items turn turns left levels more same =
    let level = first_of_levels (levels_of (drop turn.start items)) in
    rw (← more, same) (sym (append_assoc level (times left level) _))

-- each leads one step on
pub steps_last : (items : List Item) (turn : Turn) (turns : List Turn) (levels : List ℕ) → steps_from items turns levels < steps_from items (turn ∷ turns) (0 ∷ levels)
steps_last items turn turns levels = omega arith

pub steps_again : (items : List Item) (turn : Turn) (turns : List Turn) (left : ℕ) (levels : List ℕ) → suc left ≡ turn.left → levels ≡ around (step_levels (drop turn.start items)) → steps_from items (record turn { left = left } ∷ turns) (step_levels (drop turn.start items)) < steps_from items (turn ∷ turns) (0 ∷ levels)
steps_again items turn turns left levels more same = rw (← more, same) (omega arith)

-- what lies around an item's level is what lies around the next one's, or around the level of the repeat that it begins
pub around_call : (line : Line) (levels : List (List Line)) → around (onto_level line levels) ≡ around levels
around_call line [] = refl
around_call line (level ∷ levels) = refl

pub around_repeat : (count : ℕ) (levels : List (List Line)) → around (repeated count levels) ≡ around (around levels)
around_repeat count [] = refl
around_repeat count (level ∷ []) = refl
around_repeat count (level ∷ next ∷ levels) = refl

pub around_cost : (cost : ℕ) (levels : List ℕ) → around (onto_cost cost levels) ≡ around levels
around_cost cost [] = refl
around_cost cost (level ∷ levels) = refl

pub around_steps : (count : ℕ) (levels : List ℕ) → around (repeated_steps count levels) ≡ around (around levels)
around_steps count [] = refl
around_steps count (level ∷ []) = refl
around_steps count (level ∷ next ∷ levels) = refl

-- repeats stand open around a level by what lies around it alone
pub open_same : {A : Type 0} (levels : List Item → List A) (items : List Item) (turns : List Turn) (here there : List A) → around here ≡ around there → AreOpen levels items turns here → AreOpen levels items turns there
open_same levels items [] here there same stand = tt
open_same levels items (turn ∷ turns) here there same stand =
    (sym same ∙ stand.0, subst (AreOpen levels items turns) same stand.1)

-- so does a repeat that begins its next turn
pub open_again : {A : Type 0} (levels : List Item → List A) (items : List Item) (turn next : Turn) (turns : List Turn) (here : List A) → next.start ≡ turn.start → AreOpen levels items (turn ∷ turns) here → AreOpen levels items (next ∷ turns) (levels (drop turn.start items))
open_again levels items turn next turns here same stand =
    (ap (λ (start : ℕ). around (levels (drop start items))) (sym same), subst (AreOpen levels items turns) stand.0 stand.1)
