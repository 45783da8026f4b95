-- The lines that create tasks or tick, and the bare ones, which do neither.
use Rattle.std.specs.Prelude.{◌≡◌, Bool, true, false}
use Rattle.osal_call.specs.declared.word.CallWord.{CallWord}
use Rattle.osal_call.specs.declared.word.CallWord.TheVariants as word
use Rattle.osal_call.specs.declared.word.pair.NumberWord.{NumberWord}
use Rattle.osal_call.specs.declared.word.pair.NumberWord.TheVariants as number
use Rattle.osal_line.specs.declared.line.ScriptCall.{ScriptCall}
use Rattle.osal_line.specs.declared.line.ScriptCall.TheVariants as script

-- whether a call creates a task
abbrev pub is_task_creation : CallWord → Bool
is_task_creation word.TaskCreate = true
is_task_creation other = false

-- whether a call with a number is a tick
abbrev pub is_tick : NumberWord → Bool
is_tick number.TimebaseTick = true
is_tick other = false

-- whether a line is a tick
abbrev pub is_tick_line : ScriptCall → Bool
is_tick_line (script.Number called id amount) = is_tick called
is_tick_line other = false

-- a line that neither creates a task nor ticks
abbrev pub IsBare : ScriptCall → Type 0
IsBare (script.TaskCreate register name body stack priority) = ⊥
IsBare (script.Number called id amount) = is_tick called ≡ false
IsBare other = Unit {0}
