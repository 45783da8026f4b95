-- The calls of the time part.
use Rattle.std.specs.Prelude.{ℕ}
use Rattle.osal_base.specs.declared.status.Status.TheVariants as status
use Rattle.osal_base.specs.declared.time.Moment.{Moment}
use Rattle.osal_base.specs.Reply.{Replied}
use Rattle.osal_call.specs.declared.call.Call.{Call}
use Rattle.osal_call.specs.declared.call.Call.TheVariants as call
use Rattle.osal_object.specs.Outcomes.{Refuse}
use Rattle.osal_time.specs.Time.{TimeState, TimeCall, OnTimebases, Advance, held, released, done}
use Rattle.osal_time.specs.Ticks.{timebase_create, timebase_tick, timebase_free_run, timebase_delete, timebase_find}
use Rattle.osal_time.specs.Timers.{timer_add, timer_set, timer_delete, timer_find, timer_info}

-- the calls of the time part: none of them waits
abbrev pub time_call : TimeState → Call → TimeCall
time_call time (call.TimebaseCreate name) = timebase_create name.bytes
time_call time (call.TimebaseTick id usecs) = timebase_tick time id usecs
time_call time (call.TimebaseFreeRun id) = timebase_free_run id
time_call time (call.TimebaseDelete id) = timebase_delete id
time_call time (call.TimebaseFind name) = timebase_find name.bytes
time_call time (call.TimerAdd name timebase handler) = timer_add time name.bytes timebase handler
time_call time (call.TimerSet id start interval) = timer_set time id start interval
time_call time (call.TimerDelete id) = timer_delete time id
time_call time (call.TimerFind name) = timer_find name.bytes
time_call time (call.TimerInfo id) = timer_info id
time_call time (call.Advance to) = Advance to
time_call time (call.Hold id) = held id
time_call time (call.Release id) = released id
time_call time other = OnTimebases (Refuse status.ErrIncorrectObjState)

-- the calls of the time part
abbrev pub time_step : TimeState → ℕ → Moment → Call → Replied × TimeState
time_step time task now made = done time task now (time_call time made)
