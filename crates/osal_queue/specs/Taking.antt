-- How a message leaves a queue that has one, for a get that finds it and for one that waited for it.
use Rattle.std.specs.Prelude.{◌==◌, List, [], ◌∷◌, ℕ, Bool, false, not, Option, Some, None, length}
use Rattle.osal_base.specs.declared.status.Status.TheVariants as status
use Rattle.osal_base.specs.Reply.{Replied, refusal, gives_bytes}
use Rattle.osal_idtable.specs.Table.{Active}
use Rattle.osal_queue.specs.Queue.{Queue, with_messages}
use Rattle.osal_queue.specs.Queues.{QueueState, with_queue, queue_at}

-- whether a queue is there and has a message
abbrev pub has_message : Option (Active Queue) → Bool
has_message None = false
has_message (Some active) = not (length active.object.messages == 0)

-- the first of a queue's messages is taken out, with its length
abbrev pub take_message : QueueState → ℕ → Queue → List (List ℕ) → Replied × QueueState
take_message queues id queue [] = (refusal status.QueueEmpty, queues)
take_message queues id queue (message ∷ messages) =
    (gives_bytes (length message) message, with_queue queues id (with_messages queue messages))

-- the same of a queue that is there
abbrev pub take_from : QueueState → ℕ → Option (Active Queue) → Replied × QueueState
take_from queues id None = (refusal status.ErrInvalidId, queues)
take_from queues id (Some active) = take_message queues id active.object active.object.messages

-- the first message of the queue under an identifier is taken out
abbrev pub take_step : QueueState → ℕ → Replied × QueueState
take_step queues id = take_from queues id (queue_at queues id)
