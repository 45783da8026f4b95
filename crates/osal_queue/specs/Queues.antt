-- The queues, and what their calls do.
use Rattle.std.specs.Prelude.{◌==◌, List, [], ◌∷◌, ℕ, Bool, not, Option, Some, None, length, nat_lt, if◌then◌else◌}
use Rattle.osal_base.specs.declared.status.Status.TheVariants as status
use Rattle.osal_base.specs.declared.id.ObjType.TheVariants as kind
use Rattle.osal_base.specs.declared.limits.Limits.{Limits}
use Rattle.osal_base.specs.declared.time.Moment.{Moment}
use Rattle.osal_base.specs.declared.time.Timeout.{Timeout}
use Rattle.osal_base.specs.Identifier.{type_number}
use Rattle.osal_base.specs.Reply.{Replied, refusal, gives_bytes, is_waits}
use Rattle.osal_base.specs.Time.{is_check}
use Rattle.osal_call.specs.declared.call.Call.{Call}
use Rattle.osal_call.specs.declared.call.Call.TheVariants as call
use Rattle.osal_object.specs.declared.waits.WaitRecord.{WaitRecord}
use Rattle.osal_object.specs.Standing.{standing_on}
use Rattle.osal_idtable.specs.Table.{Active, active_at}
use Rattle.osal_idtable.specs.Faults.{name_bytes}
use Rattle.osal_object.specs.Waits.{wait_of, is_due}
use Rattle.osal_object.specs.Objects.{ObjectsState, no_objects, with_value}
use Rattle.osal_object.specs.Waiting.{abandon_step}
use Rattle.osal_object.specs.Outcomes.{Put, Outcome, Refuse, Named, On, Give, Make, Wait, Ending, NoWait, WaitsOn, Ends, change, tell, carried_out, ended_as, Find, Remove, Hold, Release}
use Rattle.osal_queue.specs.Queue.{Queue, may_be_sized, empty_queue, with_messages, with_message}

-- the queue part: the queues, and the gets that wait, each for a message of the queue of that identifier
pub record QueueState : Type 0 where
  pub objects : ObjectsState Queue ℕ

-- no queues
abbrev pub no_queues : Limits → QueueState
no_queues limits = record { objects = no_objects (type_number kind.Queue) limits.queues limits.tasks }

-- a step of the objects is a step of the part
abbrev pub in_queues : Replied × ObjectsState Queue ℕ → Replied × QueueState
in_queues stepped = (stepped.0, record { objects = stepped.1 })

-- the queue under an identifier, if it is active
abbrev pub queue_at : QueueState → ℕ → Option (Active Queue)
queue_at queues id = active_at queues.objects.table id

-- the part with another queue under the identifier
abbrev pub with_queue : QueueState → ℕ → Queue → QueueState
with_queue queues id queue = record { objects = with_value queues.objects id queue }

-- a call of a task by its outcome
abbrev pub done : QueueState → ℕ → Moment → Outcome Queue ℕ → Replied × QueueState
done queues task now outcome = in_queues (carried_out queues.objects task now outcome)

-- OS_QueueCreate: name faults, a depth or a message size that may not be, create faults; else the identifier of an
-- empty queue, of which the task is the creator
abbrev pub queue_create : ℕ → List ℕ → ℕ → ℕ → Outcome Queue ℕ
queue_create task name depth size =
    Named name
    (if may_be_sized depth size then Make name (empty_queue depth size task) else Refuse status.QueueInvalidSize)

-- a message above the queue's size is refused, and so is one to a full queue; else it stands behind the others
abbrev pub put_into : ℕ → List ℕ → Active Queue → Outcome Queue ℕ
put_into id message active =
    if nat_lt active.object.size (length message) then Refuse status.QueueInvalidSize
    else (if nat_lt (length active.object.messages) active.object.depth
    then change (Put id (with_message active.object message) ∷ [])
    else Refuse status.QueueFull)

-- OS_QueuePut: no bytes, an identifier that is not active; else as the queue takes the message
abbrev pub queue_put : ℕ → List ℕ → Outcome Queue ℕ
queue_put id message =
    if length message == 0 then Refuse status.ErrInvalidSize
    else On id (put_into id message)

-- the first of a queue's messages is taken out, with its length; a get from an empty queue is refused where it may not
-- wait, and else waits and holds the queue
abbrev pub get_first : ℕ → Timeout → Queue → List (List ℕ) → Outcome Queue ℕ
get_first id wait queue [] =
    if is_check wait then Refuse status.QueueEmpty
    else Wait id (standing_on (Some id)) wait
get_first id wait queue (message ∷ messages) =
    Give (length message) message (Put id (with_messages queue messages) ∷ [])

-- less room than a message of the queue may need is refused; else the first message is taken
abbrev pub get_from : ℕ → ℕ → Timeout → Active Queue → Outcome Queue ℕ
get_from id room wait active =
    if nat_lt room active.object.size then Refuse status.QueueInvalidSize
    else get_first id wait active.object active.object.messages

-- OS_QueueGet
abbrev pub queue_get : ℕ → ℕ → Timeout → Outcome Queue ℕ
queue_get id room wait = On id (get_from id room wait)

-- OS_QueueGetInfo: the task that made the queue, with the queue's name
abbrev pub queue_info : ℕ → Outcome Queue ℕ
queue_info id = On id (λ active. tell active.object.creator (name_bytes active.name))

-- a get that finds no message is due, or waits on
abbrev pub get_late : Moment → WaitRecord ℕ → Ending Queue ℕ
get_late now wait = if is_due wait now then Ends (refusal status.QueueTimeout) [] else WaitsOn

-- a get that waited takes the first of the queue's messages
abbrev pub got_first : Moment → WaitRecord ℕ → Queue → List (List ℕ) → Ending Queue ℕ
got_first now wait queue [] = get_late now wait
got_first now wait queue (message ∷ messages) =
    Ends (gives_bytes (length message) message) (Put wait.what (with_messages queue messages) ∷ [])

-- the same of a queue that may be there
abbrev pub got_from : Moment → WaitRecord ℕ → Option (Active Queue) → Ending Queue ℕ
got_from now wait None = get_late now wait
got_from now wait (Some active) = got_first now wait active.object active.object.messages

-- how a get that waits ends: with the first message; else it is due or waits on
abbrev pub get_ending : QueueState → Moment → Option (WaitRecord ℕ) → Ending Queue ℕ
get_ending queues now None = NoWait
get_ending queues now (Some wait) = got_from now wait (queue_at queues wait.what)

-- the end of a get that waits
abbrev pub wait_end_step : QueueState → ℕ → Moment → Replied × QueueState
wait_end_step queues task now =
    in_queues (ended_as queues.objects task (get_ending queues now (wait_of queues.objects.waits task)))

-- a get that waits is given up
abbrev pub wait_abandon_step : QueueState → ℕ → Replied × QueueState
wait_abandon_step queues task = in_queues (abandon_step queues.objects task)

-- whether the end of the task's get would not wait on
abbrev pub ready : QueueState → ℕ → Moment → Bool
ready queues task now = not (is_waits (wait_end_step queues task now).0.answer)

-- the calls of the queue part that end no wait
abbrev pub queue_call : ℕ → Call → Outcome Queue ℕ
queue_call task (call.QueueCreate name depth size) = queue_create task name.bytes depth size
queue_call task (call.QueueDelete id) = Remove id
queue_call task (call.QueuePut id payload) = queue_put id payload.bytes
queue_call task (call.QueueGet id n wait) = queue_get id n wait
queue_call task (call.QueueFind name) = Find name.bytes
queue_call task (call.QueueInfo id) = queue_info id
queue_call task (call.Hold id) = Hold id
queue_call task (call.Release id) = Release id
queue_call task other = Refuse status.ErrIncorrectObjState

-- the calls of the queue part
abbrev pub queue_step : QueueState → ℕ → Moment → Call → Replied × QueueState
queue_step queues task now (call.WaitEnd part) = wait_end_step queues task now
queue_step queues task now (call.WaitAbandon part) = wait_abandon_step queues task
queue_step queues task now made = done queues task now (queue_call task made)
