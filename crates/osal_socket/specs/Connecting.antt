-- Connecting, accepting and shutting down.
use Rattle.std.specs.Prelude.{◌++◌, List, [], ◌∷◌, ℕ, Bool, true, false, Option, Some, None, length, nat_lt, if◌then◌else◌}
use Rattle.osal_base.specs.declared.arguments.How.{How}
use Rattle.osal_base.specs.declared.arguments.How.TheVariants as how
use Rattle.osal_base.specs.declared.arguments.SockKind.TheVariants as kind
use Rattle.osal_base.specs.declared.status.Status.TheVariants as status
use Rattle.osal_base.specs.declared.time.Timeout.{Timeout}
use Rattle.osal_base.specs.Reply.{gives, success}
use Rattle.osal_socket.specs.declared.side.Side.{Side}
use Rattle.osal_socket.specs.declared.side.Side.TheVariants as side
use Rattle.osal_socket.specs.declared.socket.Socket.{Socket}
use Rattle.osal_socket.specs.declared.socket.Socket.TheVariants as socket
use Rattle.osal_socket.specs.Connection.{End, Connection, new_connection, own_end, with_own}
use Rattle.osal_socket.specs.Net.{NetState, Stepped, refused, finds_nothing, with_socket, is_no_port, slot_at_port, at_place, with_place, free_place, with_more}
use Rattle.osal_socket.specs.Binding.{on_stream_socket}

-- the most connections that wait to be accepted at a socket
abbrev pub pending_limit : ℕ
pending_limit = 8

-- the sockets with one more connection: its client's end is the stream's, and its other end waits at the listener
abbrev pub joined : NetState → ℕ → ℕ → ℕ → List ℕ → NetState
joined net id listener port pending =
    let number = free_place net.connections in
    let waiting = record net {
      sockets = with_place net.sockets listener (Some (socket.Listens port (pending ++ number ∷ [])));
      connections = with_more net.connections new_connection;
    } in
    with_socket waiting id (socket.Connected number side.Client)

-- a connect to what may listen at a port: nobody listens there, or too many wait already
abbrev pub connected_to : NetState → ℕ → ℕ → Option Socket → Stepped
connected_to net id listener (Some (socket.Listens port pending)) =
    if nat_lt (length pending) pending_limit then (success, joined net id listener port pending)
    else refused net status.Error
connected_to net id listener other = refused net status.Error

-- a connect to the slot of a socket that has the port, if one has
abbrev pub connected_at : NetState → ℕ → Option ℕ → Stepped
connected_at net id None = refused net status.Error
connected_at net id (Some listener) = connected_to net id listener (at_place net.sockets listener)

-- a connect of a socket that is neither bound nor connected
abbrev pub connect_from : NetState → ℕ → ℕ → Socket → Stepped
connect_from net id port socket.Fresh = connected_at net id (slot_at_port net kind.Stream port)
connect_from net id port other = refused net status.ErrIncorrectObjState

-- OS_SocketConnect: no port of that number; a stream that is no socket for connections; one that is bound or connected;
-- nobody listens there, or 8 connections wait there
abbrev pub socket_connect : NetState → ℕ → ℕ → Stepped
socket_connect net id port =
    if is_no_port port then refused net status.ErrInvalidArgument
    else on_stream_socket net id (connect_from net id port)

-- the oldest of the connections that wait is taken, under the identifier that its stream gets, if there is one
abbrev pub taken_first : NetState → ℕ → ℕ → ℕ → List ℕ → Option ℕ → Stepped
taken_first net id port number pending None = refused net status.ErrNoFreeIds
taken_first net id port number pending (Some stream) =
    (gives stream, with_socket (with_socket net id (socket.Listens port pending)) stream (socket.Connected number side.Server))

-- an accept by a socket that listens
abbrev pub accept_from : NetState → ℕ → Timeout → Option ℕ → Socket → Stepped
accept_from net id wait stream (socket.Listens port []) = finds_nothing net wait
accept_from net id wait stream (socket.Listens port (number ∷ pending)) = taken_first net id port number pending stream
accept_from net id wait stream other = refused net status.ErrIncorrectObjState

-- OS_SocketAccept, under the identifier that the new stream gets, if there is one: a stream that is no socket for
-- connections; one that does not listen; no free identifier, where a connection waits; no connection, where it may not
-- wait for one
abbrev pub socket_accept : NetState → ℕ → Timeout → Option ℕ → Stepped
socket_accept net id wait stream = on_stream_socket net id (accept_from net id wait stream)

-- whether a shutdown leaves the reading
abbrev pub leaves_reading : How → Bool
leaves_reading how.Read = false
leaves_reading how.Write = true
leaves_reading how.Both = false

-- whether it leaves the writing
abbrev pub leaves_writing : How → Bool
leaves_writing how.Read = true
leaves_writing how.Write = false
leaves_writing how.Both = false

-- an end that is shut down
abbrev pub shut_end : How → End → End
shut_end which end = record end {
  reads = if leaves_reading which then end.reads else false;
  writes = if leaves_writing which then end.writes else false;
}

-- what a call does with a connection that is there; a socket without one is not connected
abbrev pub with_connection : NetState → (Connection → Stepped) → Option Connection → Stepped
with_connection net does None = refused net status.ErrIncorrectObjState
with_connection net does (Some connection) = does connection

-- a call on the connection of a socket that is connected
abbrev pub on_connection : NetState → (ℕ → Side → Connection → Stepped) → Socket → Stepped
on_connection net does (socket.Connected number own) =
    with_connection net (does number own) (at_place net.connections number)
on_connection net does other = refused net status.ErrIncorrectObjState

-- the sockets with another connection of that number
abbrev pub put_connection : NetState → ℕ → Connection → NetState
put_connection net number connection =
    record net { connections = with_place net.connections number (Some connection) }

-- OS_SocketShutdown: a stream that is no socket for connections; one that is not connected
abbrev pub socket_shutdown : NetState → ℕ → How → Stepped
socket_shutdown net id which =
    on_stream_socket net id (on_connection net (λ number own connection.
    (success, put_connection net number (with_own own connection (shut_end which (own_end own connection))))))
