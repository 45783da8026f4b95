-- The sockets of the process, and what a call does with one of them.
use Rattle.std.specs.Prelude.{◌==◌, ◌||◌, ◌+◌, ◌∷◌, List, [], ℕ, Bool, false, Option, Some, None, replicate, nat_lt, pos, option_map, slice_index_or, slice_set, if◌then◌else◌}
use Rattle.osal_base.specs.declared.arguments.SockKind.{SockKind}
use Rattle.osal_base.specs.declared.arguments.SockKind.TheVariants as kind
use Rattle.osal_base.specs.declared.limits.Limits.{Limits}
use Rattle.osal_base.specs.declared.reply.Answer.TheVariants as answer
use Rattle.osal_base.specs.declared.status.Status.{Status}
use Rattle.osal_base.specs.declared.status.Status.TheVariants as status
use Rattle.osal_base.specs.declared.time.Timeout.{Timeout}
use Rattle.osal_base.specs.Time.{is_check}
use Rattle.osal_base.specs.Reply.{Replied, refusal, waits}
use Rattle.osal_socket.specs.declared.socket.Socket.{Socket}
use Rattle.osal_socket.specs.declared.socket.Socket.TheVariants as socket
use Rattle.osal_socket.specs.Connection.{Connection}
pub use Rattle.osal_slots.specs.Slots.{slot_among, in_slot, with_slot}

-- the sockets, each in the slot of its stream's identifier, and the connections by their numbers
pub record NetState : Type 0 where
  pub sockets : List (Option Socket)
  pub connections : List (Option Connection)

-- no sockets
abbrev pub no_sockets : Limits → NetState
no_sockets limits = record { sockets = replicate limits.streams None; connections = [] }

-- a reply, and the sockets after the call
abbrev pub Stepped : Type 0
Stepped = Replied × NetState

-- a refused call changes nothing
abbrev pub refused : NetState → Status → Stepped
refused net fault = (refusal fault, net)

-- a call that finds nothing is refused where it may not wait, and else has to wait
abbrev pub finds_nothing : NetState → Timeout → Stepped
finds_nothing net wait = if is_check wait then refused net status.ErrorTimeout else (waits, net)

-- a count is the code of the reply
abbrev pub counts : ℕ → ℕ → List ℕ → Replied
counts count number bytes = record { answer = answer.Code (pos count); number = number; bytes = bytes }

-- the socket of a stream, if the stream is one
abbrev pub socket_at : NetState → ℕ → Option Socket
socket_at net id = in_slot net.sockets id

-- another socket in the place of a stream's
abbrev pub with_socket : NetState → ℕ → Socket → NetState
with_socket net id own = record net { sockets = with_slot net.sockets id (Some own) }

-- what a call does with the socket of a stream; a stream that is none is of another type
abbrev pub with_found : NetState → (Socket → Stepped) → Option Socket → Stepped
with_found net does None = refused net status.ErrIncorrectObjType
with_found net does (Some own) = does own

-- a call on the socket of a stream
abbrev pub on_socket : NetState → ℕ → (Socket → Stepped) → Stepped
on_socket net id does = with_found net does (socket_at net id)

-- whether a number is that of no port
abbrev pub is_no_port : ℕ → Bool
is_no_port port = (port == 0) || nat_lt 65535 port

-- a port that a socket may have
abbrev pub has_port : ℕ → Option ℕ → Bool
has_port port None = false
has_port port (Some own) = own == port

-- the port of a socket that carries connections
abbrev pub stream_port : Socket → Option ℕ
stream_port (socket.Bound port) = Some port
stream_port (socket.Listens port pending) = Some port
stream_port other = None

-- the port of a socket that carries datagrams
abbrev pub datagram_port : Socket → Option ℕ
datagram_port (socket.Datagrams port waiting) = port
datagram_port other = None

-- the port of a socket of a kind
abbrev pub port_of : SockKind → Socket → Option ℕ
port_of kind.Stream own = stream_port own
port_of kind.Dgram own = datagram_port own

-- whether something is a socket of the kind with the port
abbrev pub is_at_port : SockKind → ℕ → Option Socket → Bool
is_at_port carried port None = false
is_at_port carried port (Some own) = has_port port (port_of carried own)

-- the place of the first among some that passes a test
abbrev pub place_where : {X : Type 0} → (X → Bool) → List X → Option ℕ
place_where passes [] = None
place_where passes (x ∷ xs) = if passes x then Some 0 else option_map (λ place. 1 + place) (place_where passes xs)

-- the slot of the socket of a kind that has a port, if one has
abbrev pub slot_at_port : NetState → SockKind → ℕ → Option ℕ
slot_at_port net carried port = place_where (is_at_port carried port) net.sockets

-- what stands in a place, if the place is there
abbrev pub at_place : {X : Type 0} → List (Option X) → ℕ → Option X
at_place places place = slice_index_or places place None

-- the same with something else in that place
abbrev pub with_place : {X : Type 0} → List (Option X) → ℕ → Option X → List (Option X)
with_place places place change = slice_set places place change

-- the place of the first that is free, behind the others where none is
abbrev pub free_place : {X : Type 0} → List (Option X) → ℕ
free_place [] = 0
free_place (None ∷ places) = 0
free_place (Some x ∷ places) = 1 + free_place places

-- something more, in the first place that is free
abbrev pub with_more : {X : Type 0} → List (Option X) → X → List (Option X)
with_more [] more = Some more ∷ []
with_more (None ∷ places) more = Some more ∷ places
with_more (Some x ∷ places) more = Some x ∷ with_more places more
