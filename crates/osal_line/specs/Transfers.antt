-- The arguments of calls that carry bytes: what is put or written, and the room for what is got or read.
use Rattle.std.specs.Prelude.{◌^◌, List, [], ◌∷◌, ℕ, Option, Some, None}
use Rattle.osal_base.specs.declared.time.Timeout.{Timeout}
use Rattle.osal_line.specs.Values.{number_below, wait_of}
use Rattle.osal_line.specs.Registers.{Registers, register_at}
use Rattle.osal_line.specs.Arguments.{◌>>=◌}
use Rattle.osal_line.specs.Payload.{payload_of}

-- an identifier and a payload
abbrev pub id_and_payload : List (List ℕ) → Registers → Option ((ℕ × List ℕ) × Registers)
id_and_payload [] registers = None
id_and_payload (id ∷ words) registers = do
  named ← register_at registers id
  payload ← payload_of words
  Some ((named.0, payload), named.1)

-- the room for the bytes, and the wait for them
abbrev pub room_of : List ℕ → List ℕ → Option (ℕ × Timeout)
room_of room wait = do
  n ← number_below (2 ^ 32) room
  until ← wait_of wait
  Some (n, until)

-- an identifier, a room and a wait
abbrev pub id_and_room : List (List ℕ) → Registers → Option ((ℕ × ℕ × Timeout) × Registers)
id_and_room (id ∷ room ∷ wait ∷ []) registers = do
  named ← register_at registers id
  how ← room_of room wait
  Some ((named.0, how.0, how.1), named.1)
id_and_room words registers = None
