-- The counting semaphores, and what their calls do.
use Rattle.std.specs.Prelude.{◌+◌, ◌-◌, List, [], ◌∷◌, ℕ, Bool, not, Option, Some, None, nat_lt, if◌then◌else◌}
use Rattle.osal_base.specs.declared.status.Status.TheVariants as status
use Rattle.osal_base.specs.declared.id.ObjType.TheVariants as kind
use Rattle.osal_base.specs.declared.limits.Limits.{Limits}
use Rattle.osal_base.specs.declared.time.Moment.{Moment}
use Rattle.osal_base.specs.declared.time.Timeout.{Timeout}
use Rattle.osal_base.specs.Identifier.{type_number}
use Rattle.osal_base.specs.Reply.{Replied, refusal, success, is_waits}
use Rattle.osal_base.specs.Time.{is_check}
use Rattle.osal_call.specs.declared.call.Call.{Call}
use Rattle.osal_call.specs.declared.call.Call.TheVariants as call
use Rattle.osal_object.specs.declared.waits.WaitRecord.{WaitRecord}
use Rattle.osal_object.specs.Standing.{standing_on}
use Rattle.osal_idtable.specs.Table.{Active, active_at}
use Rattle.osal_idtable.specs.Faults.{name_bytes}
use Rattle.osal_object.specs.Waits.{wait_of, is_due}
use Rattle.osal_object.specs.Objects.{ObjectsState, no_objects}
use Rattle.osal_object.specs.Waiting.{abandon_step}
use Rattle.osal_object.specs.Outcomes.{Put, Outcome, Refuse, Named, On, Make, Wait, Ending, NoWait, WaitsOn, Ends, change, tell, carried_out, ended_as, Find, Remove, Hold, Release}
use Rattle.osal_sem.specs.declared.counting.CountSem.{CountSem}

-- the counting semaphore part: the semaphores, and the takes that wait, each for the semaphore of that identifier
pub record CountSemState : Type 0 where
  pub objects : ObjectsState CountSem ℕ

-- no semaphores
abbrev pub no_count_sems : Limits → CountSemState
no_count_sems limits = record { objects = no_objects (type_number kind.CountSem) limits.count_sems limits.tasks }

-- a step of the objects is a step of the part
abbrev pub in_count_sems : Replied × ObjectsState CountSem ℕ → Replied × CountSemState
in_count_sems stepped = (stepped.0, record { objects = stepped.1 })

-- the greatest value of a counting semaphore
abbrev pub value_limit : ℕ
value_limit = 32767

-- a semaphore with a value
abbrev pub count_sem : ℕ → CountSem
count_sem value = record { value = value }

-- the semaphore under an identifier, if it is active
abbrev pub count_sem_at : CountSemState → ℕ → Option (Active CountSem)
count_sem_at sems id = active_at sems.objects.table id

-- the value of a semaphore that may be there
abbrev pub value_of : Option (Active CountSem) → ℕ
value_of None = 0
value_of (Some active) = active.object.value

-- a call of a task by its outcome
abbrev pub done : CountSemState → ℕ → Moment → Outcome CountSem ℕ → Replied × CountSemState
done sems task now outcome = in_count_sems (carried_out sems.objects task now outcome)

-- OS_CountSemCreate: name faults, a value above the greatest, create faults; else the identifier of a semaphore with
-- that value
abbrev pub count_sem_create : List ℕ → ℕ → Outcome CountSem ℕ
count_sem_create name value =
    Named name (if nat_lt value_limit value then Refuse status.InvalidSemValue else Make name (count_sem value))

-- a value above 0 falls by one; at 0 a take is refused where it may not wait, and else waits and holds the semaphore
abbrev pub take_of : ℕ → Timeout → Active CountSem → Outcome CountSem ℕ
take_of id wait active =
    if nat_lt 0 active.object.value then change (Put id (count_sem (active.object.value - 1)) ∷ [])
    else (if is_check wait then Refuse status.SemTimeout
    else Wait id (standing_on (Some id)) wait)

-- OS_CountSemTake, OS_CountSemTimedWait
abbrev pub count_sem_take : ℕ → Timeout → Outcome CountSem ℕ
count_sem_take id wait = On id (take_of id wait)

-- a value rises by one, up to the greatest
abbrev pub give_of : ℕ → Active CountSem → Outcome CountSem ℕ
give_of id active =
    if nat_lt active.object.value value_limit then change (Put id (count_sem (active.object.value + 1)) ∷ [])
    else Refuse status.SemFailure

-- OS_CountSemGive
abbrev pub count_sem_give : ℕ → Outcome CountSem ℕ
count_sem_give id = On id (give_of id)

-- OS_CountSemGetInfo: the value, with the name
abbrev pub count_sem_info : ℕ → Outcome CountSem ℕ
count_sem_info id = On id (λ active. tell active.object.value (name_bytes active.name))

-- how a take that waits ends: the value falls by one, where it is not 0; else the take is due or waits on
abbrev pub take_ending : CountSemState → Moment → Option (WaitRecord ℕ) → Ending CountSem ℕ
take_ending sems now None = NoWait
take_ending sems now (Some wait) =
    if nat_lt 0 (value_of (count_sem_at sems wait.what))
    then Ends success (Put wait.what (count_sem (value_of (count_sem_at sems wait.what) - 1)) ∷ [])
    else (if is_due wait now then Ends (refusal status.SemTimeout) []
    else WaitsOn)

-- the end of a take that waits
abbrev pub wait_end_step : CountSemState → ℕ → Moment → Replied × CountSemState
wait_end_step sems task now =
    in_count_sems (ended_as sems.objects task (take_ending sems now (wait_of sems.objects.waits task)))

-- a take that waits is given up
abbrev pub wait_abandon_step : CountSemState → ℕ → Replied × CountSemState
wait_abandon_step sems task = in_count_sems (abandon_step sems.objects task)

-- whether the end of the task's take would not wait on
abbrev pub ready : CountSemState → ℕ → Moment → Bool
ready sems task now = not (is_waits (wait_end_step sems task now).0.answer)

-- the calls of the counting semaphore part that end no wait
abbrev pub count_sem_call : Call → Outcome CountSem ℕ
count_sem_call (call.CountSemCreate name value) = count_sem_create name.bytes value
count_sem_call (call.CountSemGive id) = count_sem_give id
count_sem_call (call.CountSemTake id wait) = count_sem_take id wait
count_sem_call (call.CountSemDelete id) = Remove id
count_sem_call (call.CountSemFind name) = Find name.bytes
count_sem_call (call.CountSemInfo id) = count_sem_info id
count_sem_call (call.Hold id) = Hold id
count_sem_call (call.Release id) = Release id
count_sem_call other = Refuse status.ErrIncorrectObjState

-- the calls of the counting semaphore part
abbrev pub count_sem_step : CountSemState → ℕ → Moment → Call → Replied × CountSemState
count_sem_step sems task now (call.WaitEnd part) = wait_end_step sems task now
count_sem_step sems task now (call.WaitAbandon part) = wait_abandon_step sems task
count_sem_step sems task now made = done sems task now (count_sem_call made)
