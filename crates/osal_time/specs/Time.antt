-- The time part: the timebases, the timers, the moment that it is, and what a call does to them.
use Rattle.std.specs.Prelude.{ℕ, List, Bool, ◌==◌, not, Option, is_some, nat_lt, if◌then◌else◌}
use Rattle.osal_base.specs.declared.status.Status.TheVariants as status
use Rattle.osal_base.specs.declared.id.ObjType.TheVariants as kind
use Rattle.osal_base.specs.declared.limits.Limits.{Limits}
use Rattle.osal_base.specs.declared.time.Moment.{Moment}
use Rattle.osal_base.specs.Identifier.{type_number, type_of}
use Rattle.osal_base.specs.Reply.{Replied, refusal, success, is_waits}
use Rattle.osal_idtable.specs.Table.{Active, active_at}
use Rattle.osal_object.specs.Objects.{ObjectsState, no_objects}
use Rattle.osal_object.specs.Outcomes.{Write, Outcome, Refuse, Hold, Release, carried_out}
use Rattle.osal_object.specs.Across.{across}
use Rattle.osal_time.specs.Timebase.{Timebase}
use Rattle.osal_time.specs.declared.timer.Timer.{Timer}

-- the time part: no call of it waits
pub record TimeState : Type 0 where
  pub timebases : ObjectsState Timebase (Unit {0})
  pub timers : ObjectsState Timer (Unit {0})
  pub moment : Moment

-- no timebases and no timers, at the start of time
abbrev pub time_start : Limits → TimeState
time_start limits = record {
  timebases = no_objects (type_number kind.Timebase) limits.timebases limits.tasks;
  timers = no_objects (type_number kind.Timer) limits.timers limits.tasks;
  moment = record { ms = 0 };
}

-- a step of the timebases is a step of the part
abbrev pub in_timebases : TimeState → Replied × ObjectsState Timebase (Unit {0}) → Replied × TimeState
in_timebases time stepped = (stepped.0, record time { timebases = stepped.1 })

-- a step of the timers is a step of the part
abbrev pub in_timers : TimeState → Replied × ObjectsState Timer (Unit {0}) → Replied × TimeState
in_timers time stepped = (stepped.0, record time { timers = stepped.1 })

-- a step of the timers that writes to the timebases where it succeeds
abbrev pub in_both : TimeState → Replied × ObjectsState Timer (Unit {0}) → (Replied → List (Write Timebase (Unit {0}))) → Replied × TimeState
in_both time stepped writes =
    (stepped.0, record time { timebases = across stepped.0 writes time.timebases; timers = stepped.1 })

-- the timebase under an identifier, if it is active
abbrev pub timebase_at : TimeState → ℕ → Option (Active Timebase)
timebase_at time id = active_at time.timebases.table id

-- the timer under an identifier, if it is active
abbrev pub timer_at : TimeState → ℕ → Option (Active Timer)
timer_at time id = active_at time.timers.table id

-- whether an identifier is one of a timer
abbrev pub is_timer : ℕ → Bool
is_timer id = type_of id == type_number kind.Timer

-- whether an identifier is active, as a timer or else as a timebase
abbrev pub is_active : TimeState → ℕ → Bool
is_active time id = if is_timer id then is_some (timer_at time id) else is_some (timebase_at time id)

-- time goes on to a later moment; a moment that is not later is refused
abbrev pub advance_step : TimeState → ℕ → Replied × TimeState
advance_step time to =
    if nat_lt time.moment.ms to
    then (success, record time { moment = record { ms = to } })
    else (refusal status.Error, time)

-- what a call does: an outcome over the timebases; one over the timers; one over the timers, and what it writes to the
-- timebases where it succeeds; or time goes on
pub data TimeCall : Type 0 where
  OnTimebases : Outcome Timebase (Unit {0}) → TimeCall
  OnTimers : Outcome Timer (Unit {0}) → TimeCall
  OnBoth : Outcome Timer (Unit {0}) → (Replied → List (Write Timebase (Unit {0}))) → TimeCall
  Advance : ℕ → TimeCall

-- what a call of a task answers, and the part after it
abbrev pub done : TimeState → ℕ → Moment → TimeCall → Replied × TimeState
done time task now (OnTimebases outcome) = in_timebases time (carried_out time.timebases task now outcome)
done time task now (OnTimers outcome) = in_timers time (carried_out time.timers task now outcome)
done time task now (OnBoth outcome writes) = in_both time (carried_out time.timers task now outcome) writes
done time task now (Advance to) = advance_step time to

-- a hold of a timer or a timebase
abbrev pub held : ℕ → TimeCall
held id = if is_timer id then OnTimers (Hold id) else OnTimebases (Hold id)

-- the end of a hold of a timer or a timebase
abbrev pub released : ℕ → TimeCall
released id = if is_timer id then OnTimers (Release id) else OnTimebases (Release id)

-- the end of a wait, and its giving up: no call of the part waits
abbrev pub without_wait : TimeCall
without_wait = OnTimebases (Refuse status.ErrIncorrectObjState)

-- whether the end of the task's wait would not wait on
abbrev pub ready : TimeState → ℕ → Moment → Bool
ready time task now = not (is_waits (done time task now without_wait).0.answer)
