-- What may stand in a handler.
use Rattle.std.specs.Prelude.{Bool, true, false, not}
use Rattle.osal_base.specs.Time.{is_check}
use Rattle.osal_call.specs.declared.word.CallWord.{CallWord}
use Rattle.osal_call.specs.declared.word.CallWord.TheVariants as word
use Rattle.osal_call.specs.declared.word.object.ObjectWord.{ObjectWord}
use Rattle.osal_call.specs.declared.word.pair.WaitWord.{WaitWord}
use Rattle.osal_call.specs.declared.word.pair.WaitWord.TheVariants as wait
use Rattle.osal_call.specs.Signature.{timeout_of, object_call}
use Rattle.osal_line.specs.declared.kind.BodyKind.{BodyKind}
use Rattle.osal_line.specs.declared.kind.BodyKind.TheVariants as kind
use Rattle.osal_line.specs.declared.line.ScriptCall.{ScriptCall}
use Rattle.osal_line.specs.declared.line.ScriptCall.TheVariants as script
use Rattle.osal_line.specs.Bare.{is_tick}

-- whether a kind of body is a handler
abbrev pub is_handler : BodyKind → Bool
is_handler kind.Handler = true
is_handler kind.Task = false

-- whether a call with an identifier alone may wait: its row says so, whatever the identifier
abbrev pub object_waits : ObjectWord → Bool
object_waits called = not (is_check (timeout_of (object_call called 0)))

-- a wait for a condition variable ends with a wait for its lock, without a deadline
abbrev pub locks_again : WaitWord → Bool
locks_again wait.CondvarWait = true
locks_again wait.CountSemTake = false
locks_again wait.BinSemTake = false

-- the calls that only a task may make: those on the task itself, a tick, and those that wait without a deadline
abbrev pub needs_task : CallWord → Bool
needs_task word.TaskCreate = true
needs_task word.TaskExit = true
needs_task word.TaskDelay = true
needs_task (word.Object called) = object_waits called
needs_task (word.Wait called) = locks_again called
needs_task (word.Number called) = is_tick called
needs_task other = false

-- a call whose wait is not `check`
abbrev pub may_wait : ScriptCall → Bool
may_wait (script.Wait called id wait) = not (is_check wait)
may_wait (script.QueueGet id n wait) = not (is_check wait)
may_wait (script.Read id n wait) = not (is_check wait)
may_wait (script.SocketAccept register id wait) = not (is_check wait)
may_wait (script.SocketRecv id n wait) = not (is_check wait)
may_wait (script.SelectOne id mode wait) = not (is_check wait)
may_wait (script.SelectMulti reads writes wait) = not (is_check wait)
may_wait other = false
