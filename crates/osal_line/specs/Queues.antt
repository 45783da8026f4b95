-- The call lines on queues that have arguments of their own.
use Rattle.std.specs.Prelude.{List, [], ◌∷◌, ℕ, Option, Some, None}
use Rattle.osal_line.specs.declared.line.ScriptCall.{ScriptCall}
use Rattle.osal_line.specs.declared.line.ScriptCall.TheVariants as script
use Rattle.osal_line.specs.Registers.{Registers}
use Rattle.osal_line.specs.Arguments.{◌>>=◌, as_call, named_at, numbers_of}
use Rattle.osal_line.specs.Transfers.{id_and_payload, id_and_room}

-- a creation: the register, the name, the depth and the size
abbrev pub queue_create_of : List (List ℕ) → Registers → Option (ScriptCall × Registers)
queue_create_of (register ∷ name ∷ depth ∷ size ∷ []) registers = do
  named ← named_at registers register name
  sizes ← numbers_of depth size
  Some (script.QueueCreate named.0.0 named.0.1 sizes.0 sizes.1, named.1)
queue_create_of words registers = None

-- a put: the queue and the payload
abbrev pub queue_put_of : List (List ℕ) → Registers → Option (ScriptCall × Registers)
queue_put_of words registers = as_call (λ found. script.QueuePut found.0 found.1) (id_and_payload words registers)

-- a get: the queue, the room and the wait
abbrev pub queue_get_of : List (List ℕ) → Registers → Option (ScriptCall × Registers)
queue_get_of words registers = as_call (λ found. script.QueueGet found.0 found.1 found.2) (id_and_room words registers)
