-- The handlers of the last tick: what is left of the one that has its turn, and the numbers that wait behind it.
use Rattle.std.specs.Prelude.{◌++◌, List, [], ℕ, Bool, false, map, if◌then◌else◌}
use Rattle.osal_line.specs.declared.line.Line.{Line}
use Rattle.osal_script.specs.App.{ScriptBody}
use Rattle.osal_script.specs.Script.{Pending, fresh, in_handler, of_handler, put_in}

-- the bodies of the application; the lines of the handler that has its turn, and whether it has begun; the numbers
-- behind it; and the registers of the handler that runs or has run
pub record HandlingState : Type 0 where
  pub bodies : List ScriptBody
  pub lines : List Line
  pub begun : Bool
  pub waiting : List ℕ
  pub registers : List ℕ

-- where no handler has run
abbrev pub no_handlers : List ScriptBody → HandlingState
no_handlers bodies = record { bodies = bodies; lines = []; begun = false; waiting = []; registers = fresh }

-- the lines of a handler that may have begun
abbrev pub lines_in : Bool → List Line → List Pending
lines_in begun lines = if begun then map in_handler lines else of_handler lines

-- the handlers' lines that are still to come
abbrev pub pending_in : HandlingState → List Pending
pending_in handling = lines_in handling.begun handling.lines ++ put_in handling.bodies handling.waiting

-- the registers that the next of them uses
abbrev pub registers_in : HandlingState → List ℕ
registers_in handling = if handling.begun then handling.registers else fresh
