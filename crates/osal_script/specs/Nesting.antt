-- How the repeats of a body nest.
use Rattle.std.specs.Prelude.{◌≡◌, ◌+◌, ◌-◌, ◌&&◌, List, [], ◌∷◌, ℕ, Option, Some, None, nat_lt, if◌then◌else◌}
use Rattle.std.specs.Option.{option_and_then}
use Rattle.osal_script.specs.declared.item.Item.{Item}
use Rattle.osal_script.specs.declared.item.Item.TheVariants as item

-- how many repeats are open behind an item, where so many were open before it; none where a repeat has no turn, where
-- more than four are open, and where an end has no repeat
abbrev pub depth_behind : ℕ → Item → Option ℕ
depth_behind depth (item.Call line) = Some depth
depth_behind depth (item.Repeat count) = if nat_lt 0 count && nat_lt depth 4 then Some (depth + 1) else None
depth_behind depth item.End = if nat_lt 0 depth then Some (depth - 1) else None

-- how many repeats are open behind some items
abbrev pub depth_after : ℕ → List Item → Option ℕ
depth_after depth [] = Some depth
depth_after depth (item ∷ items) = option_and_then (λ behind. depth_after behind items) (depth_behind depth item)

-- each repeat has a turn and an end, each end a repeat, and at most four repeats are open at once
abbrev pub IsNested : List Item → Type 0
IsNested items = depth_after 0 items ≡ Some 0
