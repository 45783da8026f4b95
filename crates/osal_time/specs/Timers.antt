-- What the calls on timers do.
use Rattle.std.specs.Prelude.{◌+◌, ◌*◌, ◌^◌, ◌&&◌, ◌==◌, List, [], ◌∷◌, ℕ, Option, Some, None, nat_lt, length, if◌then◌else◌}
use Rattle.osal_base.specs.declared.status.Status.TheVariants as status
use Rattle.osal_idtable.specs.Table.{Active}
use Rattle.osal_idtable.specs.Faults.{name_bytes}
use Rattle.osal_object.specs.Outcomes.{Write, Put, Outcome, Refuse, Named, On, Find, Make, Remove, change, tell}
use Rattle.osal_time.specs.Timebase.{Timebase, with_timer, without_timer}
use Rattle.osal_call.specs.Firing.{timer_limit}
use Rattle.osal_time.specs.declared.timer.Timer.{Timer}
use Rattle.osal_time.specs.declared.timer.Setting.{Setting}
use Rattle.osal_time.specs.Time.{TimeState, timebase_at, timer_at, TimeCall, OnTimers, OnBoth}

-- a timer of a timebase that is not set
abbrev pub new_timer : ℕ → ℕ → Timer
new_timer timebase handler = record { timebase = timebase; handler = handler; setting = None }

-- a timer is made for a timebase that is there, unless it has as many as it may have
abbrev pub made_for : List ℕ → ℕ → ℕ → Option (Active Timebase) → Outcome Timer (Unit {0})
made_for name id handler None = Refuse status.ErrInvalidId
made_for name id handler (Some active) =
    if nat_lt (length active.object.timers) timer_limit then Make name (new_timer id handler) else Refuse status.Error

-- a timer is attached to a timebase that is there
abbrev pub attached : ℕ → ℕ → Option (Active Timebase) → List (Write Timebase (Unit {0}))
attached id timer None = []
attached id timer (Some active) = Put id (with_timer active.object timer) ∷ []

-- OS_TimerAdd: name faults, a timebase that is not active, or that has 64 timers, create faults; else the identifier
-- of a timer that is attached to the timebase, and not set
abbrev pub timer_add : TimeState → List ℕ → ℕ → ℕ → TimeCall
timer_add time name timebase handler =
    OnBoth (Named name (made_for name timebase handler (timebase_at time timebase)))
    (λ made. attached timebase made.number (timebase_at time timebase))

-- the sum of a timebase that is there
abbrev pub sum_of : Option (Active Timebase) → ℕ
sum_of None = 0
sum_of (Some active) = active.object.sum

-- a timer is set at the sum of its timebase
abbrev pub set_at : TimeState → ℕ → ℕ → ℕ → Active Timer → Outcome Timer (Unit {0})
set_at time id start interval active =
    change (
    Put id (record active.object {
      setting = Some (record { at = sum_of (timebase_at time active.object.timebase); start = start; interval = interval });
    })
    ∷ []
    )

-- OS_TimerSet: a start and an interval that are both 0, an identifier that is not active; else the timer is set anew
abbrev pub timer_set : TimeState → ℕ → ℕ → ℕ → TimeCall
timer_set time id start interval =
    OnTimers (if (start == 0) && (interval == 0) then Refuse status.TimerErrInvalidArgs else On id (set_at time id start interval))

-- a timer is detached from a timebase that is there
abbrev pub detached_from : ℕ → ℕ → Option (Active Timebase) → List (Write Timebase (Unit {0}))
detached_from id timer None = []
detached_from id timer (Some active) = Put id (without_timer active.object timer) ∷ []

-- a timer that is there is detached from its timebase
abbrev pub detached : TimeState → ℕ → Option (Active Timer) → List (Write Timebase (Unit {0}))
detached time id None = []
detached time id (Some active) = detached_from active.object.timebase id (timebase_at time active.object.timebase)

-- OS_TimerDelete: an identifier that is not active, a timer that is held; else it is removed, and detached
abbrev pub timer_delete : TimeState → ℕ → TimeCall
timer_delete time id = OnBoth (Remove id) (λ removed. detached time id (timer_at time id))

-- OS_TimerGetIdByName: name faults, no such name; else the identifier
abbrev pub timer_find : List ℕ → TimeCall
timer_find name = OnTimers (Find name)

-- the start and the interval of the last setting as one number, 0 before one
abbrev pub setting_number : Option Setting → ℕ
setting_number None = 0
setting_number (Some setting) = setting.start * 2 ^ 32 + setting.interval

-- OS_TimerGetInfo: an identifier that is not active; else the last setting, and the name
abbrev pub timer_info : ℕ → TimeCall
timer_info id = OnTimers (On id (λ active. tell (setting_number active.object.setting) (name_bytes active.name)))
