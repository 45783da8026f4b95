-- The call lines on timers that have arguments of their own.
use Rattle.std.specs.Prelude.{List, [], ◌∷◌, ℕ, Option, Some, None}
use Rattle.osal_line.specs.declared.line.ScriptCall.{ScriptCall}
use Rattle.osal_line.specs.declared.line.ScriptCall.TheVariants as script
use Rattle.osal_line.specs.Registers.{Registers, register_at, body_at}
use Rattle.osal_line.specs.Arguments.{◌>>=◌, named_at, numbers_of}

-- an addition: the register, the name, the timebase and the handler
abbrev pub timer_add_of : (List ℕ → Option ℕ) → List (List ℕ) → Registers → Option (ScriptCall × Registers)
timer_add_of later (register ∷ name ∷ timebase ∷ handler ∷ []) registers = do
  named ← named_at registers register name
  on ← register_at named.1 timebase
  runs ← body_at later on.1 handler
  Some (script.TimerAdd named.0.0 named.0.1 on.0 runs.0, runs.1)
timer_add_of later words registers = None

-- a setting: the timer, the start and the interval, in microseconds
abbrev pub timer_set_of : List (List ℕ) → Registers → Option (ScriptCall × Registers)
timer_set_of (id ∷ start ∷ interval ∷ []) registers = do
  named ← register_at registers id
  usecs ← numbers_of start interval
  Some (script.TimerSet named.0 usecs.0 usecs.1, named.1)
timer_set_of words registers = None
