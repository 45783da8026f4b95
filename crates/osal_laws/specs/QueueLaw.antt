-- What a queue gives: the messages that it accepted, in order, each once.
use Rattle.std.specs.Prelude.{◌≡◌, ◌==◌, ◌&&◌, ◌++◌, List, [], ◌∷◌, ℕ, Bool, true, false, Option, Some, None, option_map, if◌then◌else◌}
use Rattle.osal_base.specs.declared.limits.Limits.{Limits}
use Rattle.osal_base.specs.Reply.{reply_of, gives, is_success}
use Rattle.osal_idtable.specs.Table.{Active}
use Rattle.osal_object.specs.Waits.{wait_of}
use Rattle.osal_queue.specs.Queue.{Queue}
use Rattle.osal_queue.specs.Queues.{QueueState, queue_at}
use Rattle.osal_call.specs.declared.call.Call.{Call}
use Rattle.osal_call.specs.declared.call.Call.TheVariants as call
use Rattle.osal_call.specs.declared.call.Entry.{Entry}
use Rattle.osal_machine.specs.Step.{MachineState}
use Rattle.osal_machine.specs.History.{IsLegal, after_entry, replay}

-- the message that a call puts into a queue
abbrev pub put_by : ℕ → Call → List (List ℕ)
put_by id (call.QueuePut other payload) = if other == id then payload.bytes ∷ [] else []
put_by id other = []

-- the message that an entry brings to a queue: that of an accepted put
abbrev pub brought_by : ℕ → Entry → List (List ℕ)
brought_by id entry = if is_success entry.reply.answer then put_by id entry.call else []

-- the messages that some entries bring to a queue, in order
abbrev pub brought : ℕ → List Entry → List (List ℕ)
brought id [] = []
brought id (entry ∷ entries) = brought_by id entry ++ brought id entries

-- the queue that a task's call gets from: the one that a get names, or for which the get waited that ends
abbrev pub got_from : QueueState → ℕ → Call → Option ℕ
got_from queues task (call.QueueGet id n wait) = Some id
got_from queues task (call.WaitEnd part) =
    if part == 1 then option_map (λ wait. wait.what) (wait_of queues.objects.waits task) else None
got_from queues task other = None

-- whether an identifier that may be there is this one
abbrev pub is_this : ℕ → Option ℕ → Bool
is_this id None = false
is_this id (Some other) = other == id

-- the message that an entry gives of a queue: the bytes of a get, or of the end of one, that succeeded
abbrev pub given_by : QueueState → ℕ → Entry → List (List ℕ)
given_by queues id entry =
    if is_success entry.reply.answer && is_this id (got_from queues entry.task entry.call)
    then entry.reply.bytes.bytes ∷ []
    else []

-- the messages that some entries give of a queue, in order, from a state on
abbrev pub given : MachineState → ℕ → List Entry → List (List ℕ)
given state id [] = []
given state id (entry ∷ entries) = given_by state.queues id entry ++ given (after_entry state entry) id entries

-- whether a call makes a queue
abbrev pub is_queue_creation : Call → Bool
is_queue_creation (call.QueueCreate name depth size) = true
is_queue_creation other = false

-- an entry makes the queue of an identifier
pub record MakesQueue (id : ℕ) (entry : Entry) : Type 0 where
  pub creation : is_queue_creation entry.call ≡ true
  pub gives : reply_of entry.reply ≡ gives id

-- whether a call is the delete of a queue
abbrev pub is_delete_of : ℕ → Call → Bool
is_delete_of id (call.QueueDelete other) = other == id
is_delete_of id other = false

-- none of some entries removes a queue
abbrev pub NoneRemoves : ℕ → List Entry → Type 0
NoneRemoves id [] = Unit {0}
NoneRemoves id (entry ∷ entries) =
    (is_success entry.reply.answer && is_delete_of id entry.call ≡ false) × NoneRemoves id entries

-- from the creation of a queue on, what was put into it is what its gets gave and then what it holds: its gets give
-- the messages that it accepted, in order, each once
abbrev pub QueuesKeepTheirOrder : Type 0
QueuesKeepTheirOrder =
    (limits : Limits) (before : List Entry) (first : Entry) (after : List Entry) (id : ℕ) (queue : Active Queue)
    → IsLegal limits (before ++ first ∷ after)
    → MakesQueue id first
    → NoneRemoves id after
    → queue_at (replay limits (before ++ first ∷ after)).queues id ≡ Some queue
    → brought id after ≡ given (replay limits (before ++ first ∷ [])) id after ++ queue.object.messages
