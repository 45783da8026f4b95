-- The lines that name only bodies between two numbers.
use Rattle.std.specs.Prelude.{◌<◌, ℕ}
use Rattle.osal_line.specs.declared.line.ScriptCall.{ScriptCall}
use Rattle.osal_line.specs.declared.line.ScriptCall.TheVariants as script

-- a creation of a task names a body behind a number and below another
abbrev pub NamesBetween : ℕ → ℕ → ScriptCall → Type 0
NamesBetween number count (script.TaskCreate register name body stack priority) = (number < body) × (body < count)
NamesBetween number count other = Unit {0}
