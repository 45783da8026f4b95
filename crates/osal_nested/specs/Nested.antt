-- The items of a body as they nest, with the call lines that they stand for and what they cost.
use Rattle.std.specs.Prelude.{◌≡◌, ◌<◌, ◌≤◌, ◌+◌, ◌*◌, ◌++◌, List, [], ◌∷◌, ℕ, suc, max}
use Rattle.osal_line.specs.declared.line.Line.{Line}
use Rattle.osal_price.specs.Price.{Prices, line_cost}
use Rattle.osal_script.specs.declared.item.Item.{Item}
use Rattle.osal_script.specs.declared.item.Item.TheVariants as item
use Rattle.osal_script.specs.App.{ScriptBody, times, lines_of}
use Rattle.osal_script.specs.Cost.{first_cost, level_costs}

-- nothing more; a call line, and what follows it; a repeat, how often and of what, and what follows it
pub data Nested : Type 0 where
  Done : Nested
  Then : Line → Nested → Nested
  Repeated : ℕ → Nested → Nested → Nested

-- the flat list of the items: a repeat stands before what it repeats, and its end behind that
abbrev pub items_of : Nested → List Item
items_of Done = []
items_of (Then line rest) = item.Call line ∷ items_of rest
items_of (Repeated count inside rest) = item.Repeat count ∷ items_of inside ++ item.End ∷ items_of rest

-- the call lines with every repeat written out
abbrev pub lines_in : Nested → List Line
lines_in Done = []
lines_in (Then line rest) = line ∷ lines_in rest
lines_in (Repeated count inside rest) = times count (lines_in inside) ++ lines_in rest

-- the cost: of each line, and of what is repeated as often as it is
abbrev pub cost_in : Prices → Nested → ℕ
cost_in prices Done = 0
cost_in prices (Then line rest) = line_cost prices line.call + cost_in prices rest
cost_in prices (Repeated count inside rest) = count * cost_in prices inside + cost_in prices rest

-- how deep repeats stand in one another
abbrev pub depth_in : Nested → ℕ
depth_in Done = 0
depth_in (Then line rest) = depth_in rest
depth_in (Repeated count inside rest) = max (suc (depth_in inside)) (depth_in rest)

-- each repeat has a turn
abbrev pub HasTurns : Nested → Type 0
HasTurns Done = Unit {0}
HasTurns (Then line rest) = HasTurns rest
HasTurns (Repeated count inside rest) = (0 < count) × HasTurns inside × HasTurns rest

-- a nesting of a body's items, with its lines and its cost
pub record IsNestingOf (nested : Nested) (body : ScriptBody) : Type 0 where
  pub items : items_of nested ≡ body.items
  pub deep : depth_in nested ≤ 4
  pub turns : HasTurns nested
  pub lines : lines_of body ≡ lines_in nested
  pub costs : (prices : Prices) → first_cost (level_costs prices body.items) ≡ cost_in prices nested
