-- The mutexes, and what their calls do.
use Rattle.std.specs.Prelude.{◌+◌, ◌==◌, List, [], ◌∷◌, ℕ, suc, zero, Bool, true, false, not, Option, Some, None, nat_lt, if◌then◌else◌}
use Rattle.osal_base.specs.declared.status.Status.TheVariants as status
use Rattle.osal_base.specs.declared.id.ObjType.TheVariants as kind
use Rattle.osal_base.specs.declared.limits.Limits.{Limits}
use Rattle.osal_base.specs.declared.time.Moment.{Moment}
use Rattle.osal_base.specs.declared.time.Timeout.TheVariants as timeout
use Rattle.osal_base.specs.Identifier.{type_number}
use Rattle.osal_base.specs.Reply.{Replied, success, is_waits}
use Rattle.osal_call.specs.declared.call.Call.{Call}
use Rattle.osal_call.specs.declared.call.Call.TheVariants as call
use Rattle.osal_object.specs.declared.waits.WaitRecord.{WaitRecord}
use Rattle.osal_object.specs.Standing.{standing_on}
use Rattle.osal_idtable.specs.Table.{Active, active_at}
use Rattle.osal_idtable.specs.Holds.{is_held}
use Rattle.osal_idtable.specs.Faults.{name_bytes}
use Rattle.osal_object.specs.Waits.{wait_of}
use Rattle.osal_object.specs.Objects.{ObjectsState, no_objects}
use Rattle.osal_object.specs.Waiting.{abandon_step}
use Rattle.osal_object.specs.Outcomes.{Write, Put, Outcome, Refuse, Named, On, Make, Remove, Wait, Ending, NoWait, WaitsOn, Ends, change, tell, carried_out, ended_as, Find, Hold, Release}
use Rattle.osal_mutex.specs.declared.mutex.Lock.{Lock}
use Rattle.osal_mutex.specs.declared.mutex.Lock.TheVariants as lock
use Rattle.osal_mutex.specs.declared.mutex.Mutex.{Mutex}

-- the mutex part: the mutexes, and the takes that wait, each for the mutex of that identifier
pub record MutexState : Type 0 where
  pub objects : ObjectsState Mutex ℕ

-- no mutexes
abbrev pub no_mutexes : Limits → MutexState
no_mutexes limits = record { objects = no_objects (type_number kind.Mutex) limits.mutexes limits.tasks }

-- a step of the objects is a step of the part
abbrev pub in_mutexes : Replied × ObjectsState Mutex ℕ → Replied × MutexState
in_mutexes stepped = (stepped.0, record { objects = stepped.1 })

-- how often the owner of a mutex may have taken it
abbrev pub nesting_limit : ℕ
nesting_limit = 32767

-- a mutex that is free, made by a task
abbrev pub free_mutex : ℕ → Mutex
free_mutex creator = record { creator = creator; lock = lock.Free }

-- the mutex under an identifier, if it is active
abbrev pub mutex_at : MutexState → ℕ → Option (Active Mutex)
mutex_at mutexes id = active_at mutexes.objects.table id

-- whether a lock is owned
abbrev pub is_owned : Lock → Bool
is_owned lock.Free = false
is_owned (lock.Owned task depth) = true

-- a call of a task by its outcome
abbrev pub done : MutexState → ℕ → Moment → Outcome Mutex ℕ → Replied × MutexState
done mutexes task now outcome = in_mutexes (carried_out mutexes.objects task now outcome)

-- another lock of a mutex that is under the identifier
abbrev pub relock : ℕ → Mutex → Lock → List (Write Mutex ℕ)
relock id mutex lock = Put id (record mutex { lock = lock }) ∷ []

-- OS_MutSemCreate: name faults, create faults; else the identifier of a free mutex, of which the task is the creator
abbrev pub mut_sem_create : ℕ → List ℕ → Outcome Mutex ℕ
mut_sem_create task name = Named name (Make name (free_mutex task))

-- a free mutex is owned from now on; its owner takes it once more, up to the limit; another task waits with no deadline,
-- and holds it
abbrev pub take_of : ℕ → ℕ → Mutex → Lock → Outcome Mutex ℕ
take_of task id mutex lock.Free = change (relock id mutex (lock.Owned task 1))
take_of task id mutex (lock.Owned owner depth) =
    if owner == task
    then (if nat_lt depth nesting_limit then change (relock id mutex (lock.Owned task (depth + 1)))
    else Refuse status.SemFailure)
    else Wait id (standing_on (Some id)) timeout.Pend

-- OS_MutSemTake
abbrev pub mut_sem_take : ℕ → ℕ → Outcome Mutex ℕ
mut_sem_take task id = On id (λ active. take_of task id active.object active.object.lock)

-- the lock of a task that gives a mutex so deep once: free where it had taken it once
abbrev pub lock_given : ℕ → ℕ → Lock
lock_given task zero = lock.Free
lock_given task (suc zero) = lock.Free
lock_given task (suc (suc depth)) = lock.Owned task (suc depth)

-- only the owner gives: it has taken the mutex once less, and the mutex is free where that is never
abbrev pub give_of : ℕ → ℕ → Mutex → Lock → Outcome Mutex ℕ
give_of task id mutex lock.Free = Refuse status.SemFailure
give_of task id mutex (lock.Owned owner depth) =
    if owner == task then change (relock id mutex (lock_given task depth)) else Refuse status.SemFailure

-- OS_MutSemGive
abbrev pub mut_sem_give : ℕ → ℕ → Outcome Mutex ℕ
mut_sem_give task id = On id (λ active. give_of task id active.object active.object.lock)

-- a mutex that is held or owned is refused; else it is removed
abbrev pub delete_of : ℕ → Active Mutex → Outcome Mutex ℕ
delete_of id active =
    if is_held (Some active) then Refuse status.ErrObjectInUse
    else (if is_owned active.object.lock then Refuse status.ErrObjectInUse
    else Remove id)

-- OS_MutSemDelete
abbrev pub mut_sem_delete : ℕ → Outcome Mutex ℕ
mut_sem_delete id = On id (delete_of id)

-- OS_MutSemGetInfo: the task that made the mutex, with the mutex's name
abbrev pub mut_sem_info : ℕ → Outcome Mutex ℕ
mut_sem_info id = On id (λ active. tell active.object.creator (name_bytes active.name))

-- a take that waited takes a mutex that is free; else it waits on
abbrev pub taken_of : ℕ → ℕ → Mutex → Lock → Ending Mutex ℕ
taken_of task id mutex lock.Free = Ends success (relock id mutex (lock.Owned task 1))
taken_of task id mutex (lock.Owned owner depth) = WaitsOn

-- the same of a mutex that may be there
abbrev pub taken_from : ℕ → ℕ → Option (Active Mutex) → Ending Mutex ℕ
taken_from task id None = WaitsOn
taken_from task id (Some active) = taken_of task id active.object active.object.lock

-- how a take that waits ends: where its mutex is free
abbrev pub take_ending : MutexState → ℕ → Option (WaitRecord ℕ) → Ending Mutex ℕ
take_ending mutexes task None = NoWait
take_ending mutexes task (Some wait) = taken_from task wait.what (mutex_at mutexes wait.what)

-- the end of a take that waits
abbrev pub wait_end_step : MutexState → ℕ → Replied × MutexState
wait_end_step mutexes task =
    in_mutexes (ended_as mutexes.objects task (take_ending mutexes task (wait_of mutexes.objects.waits task)))

-- a take that waits is given up
abbrev pub wait_abandon_step : MutexState → ℕ → Replied × MutexState
wait_abandon_step mutexes task = in_mutexes (abandon_step mutexes.objects task)

-- whether the end of the task's take would not wait on
abbrev pub ready : MutexState → ℕ → Bool
ready mutexes task = not (is_waits (wait_end_step mutexes task).0.answer)

-- the calls of the mutex part that end no wait
abbrev pub mutex_call : ℕ → Call → Outcome Mutex ℕ
mutex_call task (call.MutSemCreate name) = mut_sem_create task name.bytes
mutex_call task (call.MutSemTake id) = mut_sem_take task id
mutex_call task (call.MutSemGive id) = mut_sem_give task id
mutex_call task (call.MutSemDelete id) = mut_sem_delete id
mutex_call task (call.MutSemFind name) = Find name.bytes
mutex_call task (call.MutSemInfo id) = mut_sem_info id
mutex_call task (call.Hold id) = Hold id
mutex_call task (call.Release id) = Release id
mutex_call task other = Refuse status.ErrIncorrectObjState

-- the calls of the mutex part
abbrev pub mutex_step : MutexState → ℕ → Moment → Call → Replied × MutexState
mutex_step mutexes task now (call.WaitEnd part) = wait_end_step mutexes task
mutex_step mutexes task now (call.WaitAbandon part) = wait_abandon_step mutexes task
mutex_step mutexes task now made = done mutexes task now (mutex_call task made)
