-- The call lines on tasks that have arguments of their own.
use Rattle.std.specs.Prelude.{◌^◌, List, [], ◌∷◌, ℕ, Option, Some, None, option_map}
use Rattle.osal_line.specs.declared.line.ScriptCall.{ScriptCall}
use Rattle.osal_line.specs.declared.line.ScriptCall.TheVariants as script
use Rattle.osal_line.specs.Values.{number_below}
use Rattle.osal_line.specs.Registers.{Registers, body_at}
use Rattle.osal_line.specs.Arguments.{◌>>=◌, named_at, numbers_of}

-- a creation: the register, the name, the body, the stack and the priority
abbrev pub task_create_of : (List ℕ → Option ℕ) → List (List ℕ) → Registers → Option (ScriptCall × Registers)
task_create_of later (register ∷ name ∷ body ∷ stack ∷ priority ∷ []) registers = do
  named ← named_at registers register name
  runs ← body_at later named.1 body
  sizes ← numbers_of stack priority
  Some (script.TaskCreate named.0.0 named.0.1 runs.0 sizes.0 sizes.1, runs.1)
task_create_of later words registers = None

-- an exit, without arguments
abbrev pub task_exit_of : List (List ℕ) → Option ScriptCall
task_exit_of [] = Some script.TaskExit
task_exit_of (word ∷ words) = None

-- a delay: its milliseconds
abbrev pub task_delay_of : List (List ℕ) → Option ScriptCall
task_delay_of (ms ∷ []) = option_map (λ n. script.TaskDelay n) (number_below (2 ^ 32) ms)
task_delay_of words = None

-- a call that names no register
abbrev pub without_register : Registers → Option ScriptCall → Option (ScriptCall × Registers)
without_register registers call = option_map (λ made. (made, registers)) call
