-- The call lines on sockets that have arguments of their own.
use Rattle.std.specs.Prelude.{◌^◌, List, [], ◌∷◌, ℕ, Option, Some, None, codes, if◌then◌else◌}
use Rattle.std.specs.Str.{bytes_eq}
use Rattle.osal_base.specs.declared.arguments.SockKind.{SockKind}
use Rattle.osal_base.specs.declared.arguments.SockKind.TheVariants as kind
use Rattle.osal_base.specs.declared.arguments.How.{How}
use Rattle.osal_base.specs.declared.arguments.How.TheVariants as how
use Rattle.osal_line.specs.declared.line.ScriptCall.{ScriptCall}
use Rattle.osal_line.specs.declared.line.ScriptCall.TheVariants as script
use Rattle.osal_line.specs.Values.{number_below, wait_of}
use Rattle.osal_line.specs.Registers.{Registers, register_at}
use Rattle.osal_line.specs.Arguments.{◌>>=◌, as_call}
use Rattle.osal_line.specs.Transfers.{id_and_payload, id_and_room}

-- what a socket carries: the bytes of a connection, or datagrams
abbrev pub sock_kind_of : List ℕ → Option SockKind
sock_kind_of word =
    if bytes_eq word (codes "stream") then Some kind.Stream
    else (if bytes_eq word (codes "dgram") then Some kind.Dgram else None)

-- which ways of a connection are shut down
abbrev pub how_of : List ℕ → Option How
how_of word =
    if bytes_eq word (codes "read") then Some how.Read
    else (if bytes_eq word (codes "write") then Some how.Write
    else (if bytes_eq word (codes "both") then Some how.Both
    else None))

-- an opening: the register and what the socket carries
abbrev pub socket_open_of : List (List ℕ) → Registers → Option (ScriptCall × Registers)
socket_open_of (register ∷ kind ∷ []) registers = do
  named ← register_at registers register
  carries ← sock_kind_of kind
  Some (script.SocketOpen named.0 carries, named.1)
socket_open_of words registers = None

-- an acceptance: the register, the socket that listens and the wait
abbrev pub socket_accept_of : List (List ℕ) → Registers → Option (ScriptCall × Registers)
socket_accept_of (register ∷ id ∷ wait ∷ []) registers = do
  named ← register_at registers register
  on ← register_at named.1 id
  until ← wait_of wait
  Some (script.SocketAccept named.0 on.0 until, on.1)
socket_accept_of words registers = None

-- a socket, a payload and the port that it goes to
abbrev pub sent_to : List (List ℕ) → List ℕ → Registers → Option (ScriptCall × Registers)
sent_to words port registers = do
  named ← id_and_payload words registers
  to ← number_below (2 ^ 32) port
  Some (script.SocketSend named.0.0 named.0.1 to, named.1)

-- a send: the socket, the payload, which is one word or three, and the port
abbrev pub socket_send_of : List (List ℕ) → Registers → Option (ScriptCall × Registers)
socket_send_of (id ∷ text ∷ port ∷ []) registers = sent_to (id ∷ text ∷ []) port registers
socket_send_of (id ∷ fill ∷ count ∷ byte ∷ port ∷ []) registers = sent_to (id ∷ fill ∷ count ∷ byte ∷ []) port registers
socket_send_of words registers = None

-- a reception: the socket, the room and the wait
abbrev pub socket_recv_of : List (List ℕ) → Registers → Option (ScriptCall × Registers)
socket_recv_of words registers =
    as_call (λ found. script.SocketRecv found.0 found.1 found.2) (id_and_room words registers)

-- a shutdown: the socket and which ways
abbrev pub socket_shutdown_of : List (List ℕ) → Registers → Option (ScriptCall × Registers)
socket_shutdown_of (id ∷ how ∷ []) registers = do
  named ← register_at registers id
  ways ← how_of how
  Some (script.SocketShutdown named.0 ways, named.1)
socket_shutdown_of words registers = None
