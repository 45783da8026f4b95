-- The binary semaphores, and what their calls do.
use Rattle.std.specs.Prelude.{List, [], ◌∷◌, ℕ, Bool, true, false, not, Option, Some, None, nat_lt, if◌then◌else◌}
use Rattle.osal_base.specs.declared.status.Status.TheVariants as status
use Rattle.osal_base.specs.declared.id.ObjType.TheVariants as kind
use Rattle.osal_base.specs.declared.limits.Limits.{Limits}
use Rattle.osal_base.specs.declared.time.Moment.{Moment}
use Rattle.osal_base.specs.declared.time.Timeout.{Timeout}
use Rattle.osal_base.specs.Identifier.{type_number}
use Rattle.osal_base.specs.Reply.{Replied, refusal, success, gives_bytes, waits, is_waits}
use Rattle.osal_base.specs.Time.{is_check}
use Rattle.osal_call.specs.declared.call.Call.{Call}
use Rattle.osal_call.specs.declared.call.Call.TheVariants as call
use Rattle.osal_object.specs.declared.waits.WaitRecord.{WaitRecord}
use Rattle.osal_object.specs.Standing.{standing_on}
use Rattle.osal_idtable.specs.Table.{Active, active_at}
use Rattle.osal_idtable.specs.Faults.{under_name, name_bytes}
use Rattle.osal_object.specs.Waits.{new_wait, wait_of, is_due, stands_on}
use Rattle.osal_object.specs.Objects.{ObjectsState, no_objects, with_value, create_step, delete_step, find_reply, hold_call_step, release_call_step}
use Rattle.osal_object.specs.Waiting.{abandon_step}
use Rattle.osal_object.specs.Outcomes.{Put, Mark, Outcome, Refuse, Named, On, Find, Make, Remove, Hold, Release, Wait, Ending, NoWait, WaitsOn, Ends, change, tell, carried_out, ended_as}
use Rattle.osal_sem.specs.declared.binary.BinSem.{BinSem}

-- the binary semaphore part: the semaphores, and the takes that wait, each for the semaphore of that identifier
pub record BinSemState : Type 0 where
  pub objects : ObjectsState BinSem ℕ

-- no semaphores
abbrev pub no_bin_sems : Limits → BinSemState
no_bin_sems limits = record { objects = no_objects (type_number kind.BinSem) limits.bin_sems limits.tasks }

-- a step of the objects is a step of the part
abbrev pub in_bin_sems : Replied × ObjectsState BinSem ℕ → Replied × BinSemState
in_bin_sems stepped = (stepped.0, record { objects = stepped.1 })

-- a semaphore that is full or empty
abbrev pub bin_sem : Bool → BinSem
bin_sem full = record { full = full }

-- the semaphore under an identifier, if it is active
abbrev pub bin_sem_at : BinSemState → ℕ → Option (Active BinSem)
bin_sem_at sems id = active_at sems.objects.table id

-- whether a semaphore is there and full
abbrev pub is_full : Option (Active BinSem) → Bool
is_full None = false
is_full (Some active) = active.object.full

-- the part with another semaphore under the identifier
abbrev pub with_bin_sem : BinSemState → ℕ → BinSem → BinSemState
with_bin_sem sems id sem = record { objects = with_value sems.objects id sem }

-- a call of a task by its outcome
abbrev pub done : BinSemState → ℕ → Moment → Outcome BinSem ℕ → Replied × BinSemState
done sems task now outcome = in_bin_sems (carried_out sems.objects task now outcome)

-- OS_BinSemCreate: name faults, create faults; else the identifier of a semaphore that is full where the value is not 0
abbrev pub bin_sem_create : List ℕ → ℕ → Outcome BinSem ℕ
bin_sem_create name value = Named name (Make name (bin_sem (nat_lt 0 value)))

-- a semaphore that is full is emptied; an empty one is refused where the take may not wait, and else waits and holds it
abbrev pub take_of : ℕ → Timeout → Active BinSem → Outcome BinSem ℕ
take_of id wait active =
    if active.object.full then change (Put id (bin_sem false) ∷ [])
    else (if is_check wait then Refuse status.SemTimeout
    else Wait id (standing_on (Some id)) wait)

-- OS_BinSemTake, OS_BinSemTimedWait
abbrev pub bin_sem_take : ℕ → Timeout → Outcome BinSem ℕ
bin_sem_take id wait = On id (take_of id wait)

-- OS_BinSemGive: the semaphore is full
abbrev pub bin_sem_give : ℕ → Outcome BinSem ℕ
bin_sem_give id = On id (λ active. change (Put id (bin_sem true) ∷ []))

-- OS_BinSemFlush: each take that waits is released, and the value stays
abbrev pub bin_sem_flush : ℕ → Outcome BinSem ℕ
bin_sem_flush id = On id (λ active. change (Mark (stands_on id) ∷ []))

-- OS_BinSemGetInfo: the value, with the name
abbrev pub bin_sem_info : ℕ → Outcome BinSem ℕ
bin_sem_info id =
    On id (λ active. tell (if active.object.full then 1 else 0) (name_bytes active.name))

-- how a take that waits ends: released, the value stays; else a full semaphore is emptied; else it is due or waits on
abbrev pub take_ending : BinSemState → Moment → Option (WaitRecord ℕ) → Ending BinSem ℕ
take_ending sems now None = NoWait
take_ending sems now (Some wait) =
    if wait.released then Ends success []
    else (if is_full (bin_sem_at sems wait.what) then Ends success (Put wait.what (bin_sem false) ∷ [])
    else (if is_due wait now then Ends (refusal status.SemTimeout) []
    else WaitsOn))

-- the end of a take that waits
abbrev pub wait_end_step : BinSemState → ℕ → Moment → Replied × BinSemState
wait_end_step sems task now =
    in_bin_sems (ended_as sems.objects task (take_ending sems now (wait_of sems.objects.waits task)))

-- a take that waits is given up
abbrev pub wait_abandon_step : BinSemState → ℕ → Replied × BinSemState
wait_abandon_step sems task = in_bin_sems (abandon_step sems.objects task)

-- whether the end of the task's take would not wait on
abbrev pub ready : BinSemState → ℕ → Moment → Bool
ready sems task now = not (is_waits (wait_end_step sems task now).0.answer)

-- the calls of the binary semaphore part that end no wait
abbrev pub bin_sem_call : Call → Outcome BinSem ℕ
bin_sem_call (call.BinSemCreate name value) = bin_sem_create name.bytes value
bin_sem_call (call.BinSemGive id) = bin_sem_give id
bin_sem_call (call.BinSemFlush id) = bin_sem_flush id
bin_sem_call (call.BinSemTake id wait) = bin_sem_take id wait
bin_sem_call (call.BinSemDelete id) = Remove id
bin_sem_call (call.BinSemFind name) = Find name.bytes
bin_sem_call (call.BinSemInfo id) = bin_sem_info id
bin_sem_call (call.Hold id) = Hold id
bin_sem_call (call.Release id) = Release id
bin_sem_call other = Refuse status.ErrIncorrectObjState

-- the calls of the binary semaphore part
abbrev pub bin_sem_step : BinSemState → ℕ → Moment → Call → Replied × BinSemState
bin_sem_step sems task now (call.WaitEnd part) = wait_end_step sems task now
bin_sem_step sems task now (call.WaitAbandon part) = wait_abandon_step sems task
bin_sem_step sems task now made = done sems task now (bin_sem_call made)
