-- Sending and receiving datagrams.
use Rattle.std.specs.Prelude.{◌==◌, ◌||◌, ◌++◌, List, [], ◌∷◌, ℕ, Option, Some, None, length, take, nat_lt, if◌then◌else◌}
use Rattle.osal_base.specs.declared.arguments.SockKind.TheVariants as kind
use Rattle.osal_base.specs.declared.status.Status.TheVariants as status
use Rattle.osal_base.specs.declared.time.Timeout.{Timeout}
use Rattle.osal_socket.specs.declared.socket.Socket.{Socket}
use Rattle.osal_socket.specs.declared.socket.Socket.TheVariants as socket
use Rattle.osal_socket.specs.Datagram.{Datagram, datagram_limit, waiting_limit}
use Rattle.osal_socket.specs.Net.{NetState, Stepped, refused, finds_nothing, counts, with_socket, on_socket, is_no_port, slot_at_port, at_place, with_place}

-- a call on a socket that carries datagrams, by its port and those that wait; one that carries connections is of another
-- type
abbrev pub of_datagram_kind : NetState → (Option ℕ → List Datagram → Stepped) → Socket → Stepped
of_datagram_kind net does (socket.Datagrams port waiting) = does port waiting
of_datagram_kind net does other = refused net status.ErrIncorrectObjType

-- a call on such a socket of a stream
abbrev pub on_datagram_socket : NetState → ℕ → (Option ℕ → List Datagram → Stepped) → Stepped
on_datagram_socket net id does = on_socket net id (of_datagram_kind net does)

-- the port that a datagram comes from: 0 where its sender has none
abbrev pub sender : Option ℕ → ℕ
sender None = 0
sender (Some port) = port

-- a datagram to what may be a socket at a port: nobody is there, or too many wait
abbrev pub sent_to : NetState → Datagram → ℕ → Option Socket → Stepped
sent_to net datagram slot (Some (socket.Datagrams port waiting)) =
    if nat_lt (length waiting) waiting_limit
    then (
      counts (length datagram.bytes) 0 [],
      record net { sockets = with_place net.sockets slot (Some (socket.Datagrams port (waiting ++ datagram ∷ []))) },
    )
    else refused net status.Error
sent_to net datagram slot other = refused net status.Error

-- a datagram to the slot of a socket that has the port, if one has
abbrev pub sent_at : NetState → Datagram → Option ℕ → Stepped
sent_at net datagram None = refused net status.Error
sent_at net datagram (Some slot) = sent_to net datagram slot (at_place net.sockets slot)

-- OS_SocketSendTo: no bytes or above 1,024; no port of that number; a stream that is no socket for datagrams; no such
-- socket has the port, or 16 datagrams wait there
abbrev pub socket_send : NetState → ℕ → List ℕ → ℕ → Stepped
socket_send net id payload port =
    if (length payload == 0) || nat_lt datagram_limit (length payload) then refused net status.ErrInvalidSize
    else (if is_no_port port then refused net status.ErrInvalidArgument
    else on_datagram_socket net id (λ own waiting.
    sent_at net (record { from = sender own; bytes = payload }) (slot_at_port net kind.Dgram port)))

-- the first of the datagrams that wait at a port is taken and cut; where none is there a receive has to wait
abbrev pub received : NetState → ℕ → ℕ → Timeout → ℕ → List Datagram → Stepped
received net id n wait port [] = finds_nothing net wait
received net id n wait port (datagram ∷ waiting) = (
  counts (length (take n datagram.bytes)) datagram.from (take n datagram.bytes),
  with_socket net id (socket.Datagrams (Some port) waiting),
)

-- the same where the socket may have a port
abbrev pub received_at : NetState → ℕ → ℕ → Timeout → Option ℕ → List Datagram → Stepped
received_at net id n wait None waiting = refused net status.ErrIncorrectObjState
received_at net id n wait (Some port) waiting = received net id n wait port waiting

-- OS_SocketRecvFrom: a count of none or above 1,024; a stream that is no socket for datagrams; one without a port;
-- nothing there, where it may not wait. The number of the reply is the port that the datagram comes from
abbrev pub socket_recv : NetState → ℕ → ℕ → Timeout → Stepped
socket_recv net id n wait =
    if (n == 0) || nat_lt datagram_limit n then refused net status.ErrInvalidSize
    else on_datagram_socket net id (received_at net id n wait)
