-- The condition variables, each with its lock, and what their calls do.
use Rattle.std.specs.Prelude.{◌&&◌, ◌==◌, List, [], ◌∷◌, ℕ, Bool, true, false, not, find, Option, Some, None, is_some, option_map, if◌then◌else◌}
use Rattle.osal_base.specs.declared.status.Status.TheVariants as status
use Rattle.osal_base.specs.declared.id.ObjType.TheVariants as kind
use Rattle.osal_base.specs.declared.limits.Limits.{Limits}
use Rattle.osal_base.specs.declared.time.Moment.{Moment}
use Rattle.osal_base.specs.declared.time.Timeout.{Timeout}
use Rattle.osal_base.specs.declared.time.Timeout.TheVariants as timeout
use Rattle.osal_base.specs.Identifier.{type_number}
use Rattle.osal_base.specs.Reply.{Replied, refusal, success, is_waits}
use Rattle.osal_base.specs.Time.{is_check}
use Rattle.osal_call.specs.declared.call.Call.{Call}
use Rattle.osal_call.specs.declared.call.Call.TheVariants as call
use Rattle.osal_object.specs.declared.waits.WaitRecord.{WaitRecord}
use Rattle.osal_object.specs.Standing.{standing_on}
use Rattle.osal_idtable.specs.Table.{Active, active_at}
use Rattle.osal_idtable.specs.Holds.{is_held}
use Rattle.osal_object.specs.Waits.{is_of, wait_of, is_due}
use Rattle.osal_object.specs.Objects.{ObjectsState, no_objects}
use Rattle.osal_object.specs.Waiting.{abandon_step}
use Rattle.osal_object.specs.Outcomes.{Write, Put, Mark, Outcome, Refuse, Named, On, Make, Remove, Wait, WaitAfter, Ending, NoWait, WaitsOn, Ends, change, carried_out, ended_as, Find, Hold, Release}
use Rattle.osal_condvar.specs.declared.condvar.Condvar.{Condvar}
use Rattle.osal_condvar.specs.declared.condvar.Aim.{Aim}
use Rattle.osal_condvar.specs.declared.condvar.Aim.TheVariants as aim
use Rattle.osal_condvar.specs.declared.condvar.CondvarWait.{CondvarWait}

-- the condition variable part: the condition variables, and the calls that wait, each for the lock or for a signal
pub record CondvarState : Type 0 where
  pub objects : ObjectsState Condvar CondvarWait

-- no condition variables
abbrev pub no_condvars : Limits → CondvarState
no_condvars limits = record { objects = no_objects (type_number kind.Condvar) limits.condvars limits.tasks }

-- a step of the objects is a step of the part
abbrev pub in_condvars : Replied × ObjectsState Condvar CondvarWait → Replied × CondvarState
in_condvars stepped = (stepped.0, record { objects = stepped.1 })

-- a condition variable whose lock a task has, or nobody
abbrev pub owned_by : Option ℕ → Condvar
owned_by owner = record { owner = owner }

-- the condition variable under an identifier, if it is active
abbrev pub condvar_at : CondvarState → ℕ → Option (Active Condvar)
condvar_at condvars id = active_at condvars.objects.table id

-- whether a task is the owner of a lock that may have one
abbrev pub is_owner : Option ℕ → ℕ → Bool
is_owner None task = false
is_owner (Some owner) task = owner == task

-- whether a condition variable is there and its lock is free
abbrev pub is_free : Option (Active Condvar) → Bool
is_free None = false
is_free (Some active) = not (is_some active.object.owner)

-- whether a call waits for a signal, not for the lock alone
abbrev pub is_signal : Aim → Bool
is_signal aim.Lock = false
is_signal aim.Signal = true

-- whether a call waits for a signal of a condition variable
abbrev pub is_for : ℕ → CondvarWait → Bool
is_for id what = (what.id == id) && is_signal what.aim

-- a call of a task by its outcome
abbrev pub done : CondvarState → ℕ → Moment → Outcome Condvar CondvarWait → Replied × CondvarState
done condvars task now outcome = in_condvars (carried_out condvars.objects task now outcome)

-- OS_CondVarCreate: name faults, create faults; else the identifier of a condition variable whose lock is free
abbrev pub condvar_create : List ℕ → Outcome Condvar CondvarWait
condvar_create name = Named name (Make name (owned_by None))

-- a free lock is taken; a task that has the lock is refused; another one waits, without a deadline, and holds it
abbrev pub lock_of : ℕ → ℕ → Option ℕ → Outcome Condvar CondvarWait
lock_of task id None = change (Put id (owned_by (Some task)) ∷ [])
lock_of task id (Some owner) =
    if owner == task then Refuse status.SemFailure
    else Wait (record { id = id; aim = aim.Lock }) (standing_on (Some id)) timeout.Pend

-- OS_CondVarLock
abbrev pub condvar_lock : ℕ → ℕ → Outcome Condvar CondvarWait
condvar_lock task id = On id (λ active. lock_of task id active.object.owner)

-- OS_CondVarUnlock: a task that has not the lock is refused; else the lock is free
abbrev pub condvar_unlock : ℕ → ℕ → Outcome Condvar CondvarWait
condvar_unlock task id =
    On id (λ active. if is_owner active.object.owner task then change (Put id (owned_by None) ∷ [])
    else Refuse status.SemFailure)

-- the task that has waited longest for a signal of a condition variable, and has none yet
abbrev pub longest_waiting : List (WaitRecord CondvarWait) → ℕ → Option ℕ
longest_waiting waits id =
    option_map (λ wait. wait.task) (find (λ wait. is_for id wait.what && not wait.released) waits)

-- the wait of a task is released, if there is one
abbrev pub release_of : Option ℕ → List (Write Condvar CondvarWait)
release_of None = []
release_of (Some task) = Mark (is_of task) ∷ []

-- OS_CondVarSignal: the wait that has waited longest is released, if there is one
abbrev pub condvar_signal : CondvarState → ℕ → Outcome Condvar CondvarWait
condvar_signal condvars id =
    On id (λ active. change (release_of (longest_waiting condvars.objects.waits.records id)))

-- OS_CondVarBroadcast: each wait for a signal is released
abbrev pub condvar_broadcast : ℕ → Outcome Condvar CondvarWait
condvar_broadcast id = On id (λ active. change (Mark (λ wait. is_for id wait.what) ∷ []))

-- OS_CondVarWait, OS_CondVarTimedWait: a task that has not the lock is refused, and so is a wait that may not wait, which
-- keeps the lock; else the task waits for a signal, and the lock is free
abbrev pub condvar_wait : ℕ → ℕ → Timeout → Outcome Condvar CondvarWait
condvar_wait task id wait =
    On id (λ active. if is_owner active.object.owner task then
    (if is_check wait then Refuse status.ErrorTimeout
    else WaitAfter (record { id = id; aim = aim.Signal }) (standing_on (Some id)) wait (Put id (owned_by None) ∷ []))
    else Refuse status.SemFailure)

-- OS_CondVarDelete: a condition variable that is held or locked is refused; else it is removed
abbrev pub condvar_delete : ℕ → Outcome Condvar CondvarWait
condvar_delete id =
    On id (λ active. if is_held (Some active) then Refuse status.ErrObjectInUse
    else (if is_some active.object.owner then Refuse status.ErrObjectInUse
    else Remove id))

-- a call that waited is over, and its task has the lock
abbrev pub relocked : ℕ → ℕ → Replied → Ending Condvar CondvarWait
relocked task id reply = Ends reply (Put id (owned_by (Some task)) ∷ [])

-- how a call that waits ends where the lock is free: a wait for a signal that has none is due, or waits on; else it is over
abbrev pub free_ending : ℕ → Moment → WaitRecord CondvarWait → Ending Condvar CondvarWait
free_ending task now wait =
    if is_signal wait.what.aim && not wait.released then
    (if is_due wait now then relocked task wait.what.id (refusal status.ErrorTimeout) else WaitsOn)
    else relocked task wait.what.id success

-- how a call that waits ends: not while somebody has the lock, whatever its deadline
abbrev pub wait_ending : CondvarState → ℕ → Moment → Option (WaitRecord CondvarWait) → Ending Condvar CondvarWait
wait_ending condvars task now None = NoWait
wait_ending condvars task now (Some wait) =
    if is_free (condvar_at condvars wait.what.id) then free_ending task now wait else WaitsOn

-- the end of a call that waits
abbrev pub wait_end_step : CondvarState → ℕ → Moment → Replied × CondvarState
wait_end_step condvars task now =
    in_condvars (ended_as condvars.objects task (wait_ending condvars task now (wait_of condvars.objects.waits task)))

-- a call that waits is given up
abbrev pub wait_abandon_step : CondvarState → ℕ → Replied × CondvarState
wait_abandon_step condvars task = in_condvars (abandon_step condvars.objects task)

-- whether the end of the task's wait would not wait on
abbrev pub ready : CondvarState → ℕ → Moment → Bool
ready condvars task now = not (is_waits (wait_end_step condvars task now).0.answer)

-- the calls of the condition variable part that end no wait
abbrev pub condvar_call : CondvarState → ℕ → Call → Outcome Condvar CondvarWait
condvar_call condvars task (call.CondvarCreate name) = condvar_create name.bytes
condvar_call condvars task (call.CondvarLock id) = condvar_lock task id
condvar_call condvars task (call.CondvarUnlock id) = condvar_unlock task id
condvar_call condvars task (call.CondvarSignal id) = condvar_signal condvars id
condvar_call condvars task (call.CondvarBroadcast id) = condvar_broadcast id
condvar_call condvars task (call.CondvarWait id wait) = condvar_wait task id wait
condvar_call condvars task (call.CondvarDelete id) = condvar_delete id
condvar_call condvars task (call.CondvarFind name) = Find name.bytes
condvar_call condvars task (call.Hold id) = Hold id
condvar_call condvars task (call.Release id) = Release id
condvar_call condvars task other = Refuse status.ErrIncorrectObjState

-- the calls of the condition variable part
abbrev pub condvar_step : CondvarState → ℕ → Moment → Call → Replied × CondvarState
condvar_step condvars task now (call.WaitEnd part) = wait_end_step condvars task now
condvar_step condvars task now (call.WaitAbandon part) = wait_abandon_step condvars task
condvar_step condvars task now made = done condvars task now (condvar_call condvars task made)
