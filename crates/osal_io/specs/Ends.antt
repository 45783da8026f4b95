-- How the waits of the io part end: a wait makes its call again.
use Rattle.std.specs.Prelude.{ℕ, Bool, not, Option, Some, None, if◌then◌else◌}
use Rattle.osal_base.specs.declared.status.Status.TheVariants as status
use Rattle.osal_base.specs.declared.time.Moment.{Moment}
use Rattle.osal_base.specs.declared.time.Timeout.TheVariants as timeout
use Rattle.osal_base.specs.Reply.{refusal, waits, is_waits}
use Rattle.osal_object.specs.declared.waits.WaitRecord.{WaitRecord}
use Rattle.osal_object.specs.Waits.{wait_of, is_due}
use Rattle.osal_object.specs.Waiting.{end_wait, abandon_step}
use Rattle.osal_io.specs.declared.awaited.Awaited.{Awaited}
use Rattle.osal_io.specs.declared.awaited.Awaited.TheVariants as awaited
use Rattle.osal_io.specs.Io.{IoState, Stepped, refused, in_streams, read_now}
use Rattle.osal_io.specs.Sockets.{accept_now, receive_now}
use Rattle.osal_io.specs.Select.{one_now, multi_now}

-- what is waited for is tried again, as by a call that may wait
abbrev pub again : IoState → Awaited → Stepped
again io (awaited.Read id n) = read_now io id n timeout.Pend
again io (awaited.Accept id) = accept_now io id timeout.Pend
again io (awaited.Receive id n) = receive_now io id n timeout.Pend
again io (awaited.One id asked) = one_now io id asked timeout.Pend
again io (awaited.Multi reads writes) = multi_now io reads writes timeout.Pend

-- the part once the wait of a task is over
abbrev pub without_wait : IoState → ℕ → IoState
without_wait io task = record io { streams = end_wait io.streams task }

-- a wait whose call would still have to wait is due, or waits on
abbrev pub ended_late : IoState → ℕ → Bool → Stepped
ended_late io task due = if due then (refusal status.ErrorTimeout, without_wait io task) else (waits, io)

-- such a wait ends late; another is over, with the reply of its call
abbrev pub ended_as : IoState → ℕ → Bool → Stepped → Stepped
ended_as io task due stepped =
    if is_waits stepped.0.answer then ended_late io task due else (stepped.0, without_wait stepped.1 task)

-- the end of a wait that may be open
abbrev pub ended : IoState → ℕ → Moment → Option (WaitRecord Awaited) → Stepped
ended io task now None = refused io status.ErrIncorrectObjState
ended io task now (Some wait) = ended_as io task (is_due wait now) (again io wait.what)

-- the end of a task's wait
abbrev pub wait_end : IoState → ℕ → Moment → Stepped
wait_end io task now = ended io task now (wait_of io.streams.waits task)

-- a wait is given up
abbrev pub wait_abandon : IoState → ℕ → Stepped
wait_abandon io task = in_streams io (abandon_step io.streams task)

-- whether the end of the task's wait would not wait on
abbrev pub ready : IoState → ℕ → Moment → Bool
ready io task now = not (is_waits (wait_end io task now).0.answer)
