-- What an application costs: a bound on the entries of its runs.
use Rattle.std.specs.Prelude.{◌+◌, ◌*◌, ◌-◌, List, [], ◌∷◌, ℕ, max, min, slice_index}
use Rattle.osal_base.specs.Limits.{version1}
use Rattle.osal_call.specs.Firing.{timer_limit}
use Rattle.osal_line.specs.declared.kind.BodyKind.{BodyKind}
use Rattle.osal_line.specs.declared.kind.BodyKind.TheVariants as kind
use Rattle.osal_price.specs.Price.{Prices, line_cost}
use Rattle.osal_script.specs.declared.item.Item.{Item}
use Rattle.osal_script.specs.declared.item.Item.TheVariants as item
use Rattle.osal_script.specs.App.{ScriptBody, Application}

-- the cost of a line before the others of its level
abbrev pub onto_cost : ℕ → List ℕ → List ℕ
onto_cost cost [] = cost ∷ []
onto_cost cost (level ∷ levels) = (cost + level) ∷ levels

-- the cost of a repeat of the first level, before what follows its end
abbrev pub repeated_cost : ℕ → List ℕ → List ℕ
repeated_cost count [] = []
repeated_cost count (level ∷ []) = count * level ∷ []
repeated_cost count (level ∷ around ∷ levels) = (count * level + around) ∷ levels

-- the costs of some items, level by level
abbrev pub level_costs : Prices → List Item → List ℕ
level_costs prices [] = 0 ∷ []
level_costs prices (item.Call line ∷ items) = onto_cost (line_cost prices line.call) (level_costs prices items)
level_costs prices (item.Repeat count ∷ items) = repeated_cost count (level_costs prices items)
level_costs prices (item.End ∷ items) = 0 ∷ level_costs prices items

-- the first of some costs
abbrev pub first_cost : List ℕ → ℕ
first_cost [] = 0
first_cost (cost ∷ costs) = cost

-- the cost of a task body: its items, and the checkpoint and the exit behind them
abbrev pub body_cost : Prices → ScriptBody → ℕ
body_cost prices body = first_cost (level_costs prices body.items) + 2

-- nothing costs anything: the prices in a handler, which neither creates tasks nor ticks
abbrev pub no_prices : Prices
no_prices = record { body = λ number. 0; tick = 0 }

-- the cost of a handler: its items; a task body is none
abbrev pub handler_cost : BodyKind → List Item → ℕ
handler_cost kind.Handler items = first_cost (level_costs no_prices items)
handler_cost kind.Task items = 0

-- the greatest cost of a handler among some bodies
abbrev pub greatest_handler : List ScriptBody → ℕ
greatest_handler [] = 0
greatest_handler (body ∷ bodies) = max (handler_cost body.kind body.items) (greatest_handler bodies)

-- what a tick costs beside its line: so many handlers as timers may fire in it, each at most the dearest
abbrev pub tick_cost : List ScriptBody → ℕ
tick_cost bodies = min timer_limit version1.timers * greatest_handler bodies

-- the costs of the bodies from a number on, where a tick costs so much; a body names only later ones
abbrev pub costs_from : ℕ → ℕ → List ScriptBody → List ℕ
costs_from tick number [] = []
costs_from tick number (body ∷ bodies) =
    body_cost
    (record {
      body = λ other. slice_index (costs_from tick (number + 1) bodies) (other - (number + 1));
      tick = tick;
    }) body
    ∷ costs_from tick (number + 1) bodies

-- the cost of an application: the first task's creation, and its body
abbrev pub cost_of : Application → ℕ
cost_of app = 1 + first_cost (costs_from (tick_cost app.bodies) 0 app.bodies)
