-- How many steps a walk along a body's items has: one for each item, and one for each turn's end.
use Rattle.std.specs.Prelude.{◌+◌, ◌*◌, List, [], ◌∷◌, ℕ, drop}
use Rattle.osal_script.specs.declared.item.Item.{Item}
use Rattle.osal_script.specs.declared.item.Item.TheVariants as item
use Rattle.osal_script.specs.declared.walk.Turn.{Turn}
use Rattle.osal_script.specs.declared.walk.Place.{Place}
use Rattle.osal_script.specs.Cost.{first_cost, onto_cost}
use Rattle.osal_script.specs.Walk.{around, open_at}

-- the steps of a repeat of the first level, before those behind its end
abbrev pub repeated_steps : ℕ → List ℕ → List ℕ
repeated_steps count [] = []
repeated_steps count (level ∷ []) = (count * (level + 1) + 1) ∷ []
repeated_steps count (level ∷ around ∷ levels) = (count * (level + 1) + 1 + around) ∷ levels

-- the steps along some items, level by level
abbrev pub step_levels : List Item → List ℕ
step_levels [] = 0 ∷ []
step_levels (item.Call line ∷ items) = onto_cost 1 (step_levels items)
step_levels (item.Repeat count ∷ items) = repeated_steps count (step_levels items)
step_levels (item.End ∷ items) = 0 ∷ step_levels items

-- the steps where these repeats are open, the innermost first
abbrev pub steps_from : List Item → List Turn → List ℕ → ℕ
steps_from items [] levels = first_cost levels
steps_from items (turn ∷ turns) levels =
    first_cost levels
    + (1 + turn.left * (first_cost (step_levels (drop turn.start items)) + 1) + steps_from items turns (around levels))

-- the steps from a place
abbrev pub steps_at : List Item → Place → ℕ
steps_at items place = steps_from items (open_at place) (step_levels (drop place.at items))
