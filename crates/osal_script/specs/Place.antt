-- The places to which a walk along the items of a body comes.
use Rattle.std.specs.Prelude.{◌≡◌, ◌≤◌, ◌<◌, ◌+◌, List, [], ◌∷◌, Some, length, drop}
use Rattle.osal_script.specs.declared.item.Item.{Item}
use Rattle.osal_script.specs.declared.item.Item.TheVariants as item
use Rattle.osal_script.specs.declared.walk.Turn.{Turn}
use Rattle.osal_script.specs.declared.walk.Place.{Place}
use Rattle.osal_script.specs.App.{levels_of}
use Rattle.osal_script.specs.Nesting.{depth_after}
use Rattle.osal_script.specs.Steps.{step_levels, steps_at}
use Rattle.osal_script.specs.Walk.{around, open_at, lines_at}

-- each open repeat starts where the items go on behind its end as they do from here
abbrev pub AreOpen : {A : Type 0} → (List Item → List A) → List Item → List Turn → List A → Type 0
AreOpen levels items [] here = Unit {0}
AreOpen levels items (turn ∷ turns) here =
    (around here ≡ around (levels (drop turn.start items))) × AreOpen levels items turns (around here)

-- where an open repeat starts, it and those around it are open
abbrev pub AreNested : List Item → List Turn → Type 0
AreNested items [] = Unit {0}
AreNested items (turn ∷ turns) =
    (turn.start ≤ length items)
    × (depth_after (length turns + 1) (drop turn.start items) ≡ Some 0)
    × AreNested items turns

-- a place to which a walk along the items can come
pub record IsPlace (items : List Item) (place : Place) : Type 0 where
  pub within : place.at ≤ length items
  pub room : length place.turns ≡ 4
  pub deep : place.depth ≤ 4
  pub nested : depth_after place.depth (drop place.at items) ≡ Some 0
  pub starts : AreNested items (open_at place)
  pub lines : AreOpen levels_of items (open_at place) (levels_of (drop place.at items))
  pub steps : AreOpen step_levels items (open_at place) (step_levels (drop place.at items))

-- a place one step behind another, from which the same lines come
pub record IsPassed (items : List Item) (place next : Place) : Type 0 where
  pub within : IsPlace items next
  pub lines : lines_at items next ≡ lines_at items place
  pub fewer : steps_at items next < steps_at items place

-- whether some items are none, or begin with a call line
abbrev pub BeginsWithCall : List Item → Type 0
BeginsWithCall [] = Unit {0}
BeginsWithCall (item.Call line ∷ items) = Unit {0}
BeginsWithCall (item.Repeat count ∷ items) = ⊥
BeginsWithCall (item.End ∷ items) = ⊥

-- a place at a call line, or behind the last item
pub record IsSettled (items : List Item) (place : Place) : Type 0 where
  pub place_in : IsPlace items place
  pub ready : BeginsWithCall (drop place.at items)
