-- What the calls on timebases do.
use Rattle.std.specs.Prelude.{◌+◌, ◌-◌, ◌%◌, ◌^◌, ◌==◌, ◌++◌, List, [], ◌∷◌, ℕ, Option, Some, None, length, nat_lt, if◌then◌else◌}
use Rattle.osal_call.specs.Firing.{Firing, bytes_of}
use Rattle.osal_base.specs.declared.status.Status.TheVariants as status
use Rattle.osal_base.specs.Reply.{Replied, gives_bytes}
use Rattle.osal_idtable.specs.Table.{Active, TableState, active_at}
use Rattle.osal_object.specs.Outcomes.{Write, Put, Outcome, Refuse, Named, On, Give, Find, Make, Remove, tell}
use Rattle.osal_time.specs.Expiry.{expiries_between}
use Rattle.osal_time.specs.Timebase.{Timebase, new_timebase, sum_limit}
use Rattle.osal_time.specs.declared.timer.Timer.{Timer}
use Rattle.osal_time.specs.Time.{TimeState, TimeCall, OnTimebases}

-- so many expiries of a timer make one firing, or none where there are none
abbrev pub firing_for : ℕ → ℕ → ℕ → List Firing
firing_for expiries timer handler =
    if expiries == 0 then []
    else record { timer = timer; backlog = expiries - 1; handler = handler } ∷ []

-- the firing of a timer that is there, as the sum of its timebase rises
abbrev pub firing_of : ℕ → ℕ → ℕ → Option (Active Timer) → List Firing
firing_of from to timer None = []
firing_of from to timer (Some active) =
    firing_for (expiries_between active.object.setting from to) timer active.object.handler

-- the firings of some timers, in their order
abbrev pub firings : TableState Timer → ℕ → ℕ → List ℕ → List Firing
firings timers from to [] = []
firings timers from to (timer ∷ others) =
    firing_of from to timer (active_at timers timer) ++ firings timers from to others

-- how many timers fired, and which
abbrev pub firings_reply : List Firing → Replied
firings_reply firings = gives_bytes (length firings) (bytes_of firings)

-- OS_TimeBaseCreate: name faults, create faults; else the identifier of a timebase whose sum is 0
abbrev pub timebase_create : List ℕ → TimeCall
timebase_create name = OnTimebases (Named name (Make name new_timebase))

-- a call tells how many timers fired, and which, and writes
abbrev pub tell_firings : List Firing → List (Write Timebase (Unit {0})) → Outcome Timebase (Unit {0})
tell_firings firings writes = Give (length firings) (bytes_of firings) writes

-- the sum of a timebase rises, unless it would pass its limit; each of its timers with an expiry there fires once
abbrev pub run_of : TableState Timer → ℕ → ℕ → Active Timebase → Outcome Timebase (Unit {0})
run_of timers id usecs active =
    if nat_lt sum_limit (active.object.sum + usecs) then Refuse status.Error
    else tell_firings (firings timers active.object.sum (active.object.sum + usecs) active.object.timers)
    (Put id (record active.object { sum = active.object.sum + usecs }) ∷ [])

-- the tick of a timebase: no microseconds, an identifier that is not active, a sum that would pass its limit; else
-- the sum rises
abbrev pub timebase_tick : TimeState → ℕ → ℕ → TimeCall
timebase_tick time id usecs =
    OnTimebases (if usecs == 0 then Refuse status.TimerErrInvalidArgs else On id (run_of time.timers.table id usecs))

-- OS_TimeBaseGetFreeRun: an identifier that is not active; else the sum, in 32 bits
abbrev pub timebase_free_run : ℕ → TimeCall
timebase_free_run id = OnTimebases (On id (λ active. tell (active.object.sum % 2 ^ 32) []))

-- a timebase is removed, unless a timer is attached to it
abbrev pub removal_of : ℕ → Active Timebase → Outcome Timebase (Unit {0})
removal_of id active = if nat_lt 0 (length active.object.timers) then Refuse status.ErrObjectInUse else Remove id

-- OS_TimeBaseDelete: an identifier that is not active, a timebase that is held or has a timer; else it is removed
abbrev pub timebase_delete : ℕ → TimeCall
timebase_delete id = OnTimebases (On id (removal_of id))

-- OS_TimeBaseGetIdByName: name faults, no such name; else the identifier
abbrev pub timebase_find : List ℕ → TimeCall
timebase_find name = OnTimebases (Find name)
