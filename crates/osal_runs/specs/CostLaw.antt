-- What the cost of an application says of its runs.
use Rattle.std.specs.Prelude.{◌≤◌, List, length}
use Rattle.osal_call.specs.declared.call.Entry.{Entry}
use Rattle.osal_script.specs.App.{Application, NamesLater, HandlersAreBare}
use Rattle.osal_script.specs.Cost.{cost_of}
use Rattle.osal_runs.specs.Runs.{IsPartRun}

-- a part run has no more entries than its application costs
abbrev pub CostBounds : Type 0
CostBounds =
    (app : Application) (entries : List Entry)
    → NamesLater app
    → HandlersAreBare app
    → IsPartRun app entries
    → length entries ≤ cost_of app
