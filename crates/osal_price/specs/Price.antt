-- What a call line costs: a bound on the entries that it brings about.
use Rattle.std.specs.Prelude.{◌+◌, ◌/◌, ◌==◌, ℕ, length, if◌then◌else◌}
use Rattle.osal_base.specs.declared.time.Timeout.{Timeout}
use Rattle.osal_base.specs.declared.time.Timeout.TheVariants as timeout
use Rattle.osal_call.specs.Signature.{timeout_of, object_call}
use Rattle.osal_line.specs.declared.line.ScriptCall.{ScriptCall}
use Rattle.osal_line.specs.declared.line.ScriptCall.TheVariants as script
use Rattle.osal_line.specs.Bare.{is_tick}

-- a line that may wait costs one more, and two more where its wait has a deadline
abbrev pub wait_cost : Timeout → ℕ
wait_cost timeout.Check = 0
wait_cost timeout.Pend = 1
wait_cost (timeout.Ms ms) = if ms == 0 then 0 else 2

-- what brings other lines about: the body of each number, for the task that a line creates, and the handlers of a tick
pub record Prices : Type 0 where
  pub body : ℕ → ℕ
  pub tick : ℕ

-- what a call line costs beside its checkpoint and its call: its wait, each 64 bytes of a payload or of the room for
-- bytes, the entries beside a task's scripts and its body, the handlers that a tick runs, the drains of what is written to
-- the console
abbrev pub more_cost : Prices → ScriptCall → ℕ
more_cost prices (script.Object called id) = wait_cost (timeout_of (object_call called 0))
more_cost prices (script.Wait called id wait) = wait_cost wait
more_cost prices (script.Number called id number) = if is_tick called then prices.tick else 0
more_cost prices (script.TaskCreate register name body stack priority) = 8 + prices.body body
more_cost prices (script.TaskDelay ms) = wait_cost (timeout.Ms ms)
more_cost prices (script.QueuePut id payload) = length payload / 64
more_cost prices (script.QueueGet id n wait) = wait_cost wait + n / 64
more_cost prices (script.Read id n wait) = wait_cost wait + n / 64
more_cost prices (script.Write id payload) = length payload / 64
more_cost prices (script.SocketAccept register id wait) = wait_cost wait
more_cost prices (script.SocketSend id payload port) = length payload / 64
more_cost prices (script.SocketRecv id n wait) = wait_cost wait + n / 64
more_cost prices (script.SelectOne id mode wait) = wait_cost wait
more_cost prices (script.SelectMulti reads writes wait) = wait_cost wait
more_cost prices (script.ConsoleWrite payload) = 2 + length payload / 64
more_cost prices other = 0

-- the cost of a call line
abbrev pub line_cost : Prices → ScriptCall → ℕ
line_cost prices call = 2 + more_cost prices call
