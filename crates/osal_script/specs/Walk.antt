-- A walk along the items of a body: the call lines that are still to come at a place.
use Rattle.std.specs.Prelude.{◌++◌, List, [], ◌∷◌, Option, Some, None, take, drop, reverse}
use Rattle.osal_line.specs.declared.line.Line.{Line}
use Rattle.osal_script.specs.declared.item.Item.{Item}
use Rattle.osal_script.specs.declared.walk.Turn.{Turn}
use Rattle.osal_script.specs.declared.walk.Place.{Place}
use Rattle.osal_script.specs.App.{times, first_of_levels, levels_of}

-- the levels around the first
abbrev pub around : {A : Type 0} → List A → List A
around [] = []
around (level ∷ levels) = levels

-- the lines to come where these repeats are open, the innermost first: the rest of this turn, the turns that are
-- left, and what comes behind the repeat's end
abbrev pub lines_from : List Item → List Turn → List (List Line) → List Line
lines_from items [] levels = first_of_levels levels
lines_from items (turn ∷ turns) levels =
    first_of_levels levels
    ++ (times turn.left (first_of_levels (levels_of (drop turn.start items))) ++ lines_from items turns (around levels))

-- the repeats that are open at a place, the innermost first
abbrev pub open_at : Place → List Turn
open_at place = reverse (take place.depth place.turns)

-- the lines to come at a place
abbrev pub lines_at : List Item → Place → List Line
lines_at items place = lines_from items (open_at place) (levels_of (drop place.at items))

-- the first of some lines, if there is one
abbrev pub first_of : List Line → Option Line
first_of [] = None
first_of (line ∷ lines) = Some line

-- the lines behind the first
abbrev pub behind_first : List Line → List Line
behind_first [] = []
behind_first (line ∷ lines) = lines
