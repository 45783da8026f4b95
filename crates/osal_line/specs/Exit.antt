-- The exit, the line that ends its script.
use Rattle.std.specs.Prelude.{Bool, true, false}
use Rattle.osal_line.specs.declared.line.ScriptCall.{ScriptCall}
use Rattle.osal_line.specs.declared.line.ScriptCall.TheVariants as script

-- whether a line is the exit
abbrev pub is_exit_line : ScriptCall → Bool
is_exit_line script.TaskExit = true
is_exit_line other = false
