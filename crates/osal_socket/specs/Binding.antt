-- Opening, binding and listening.
use Rattle.std.specs.Prelude.{◌&&◌, [], ℕ, Bool, not, Option, Some, None, is_some, if◌then◌else◌}
use Rattle.osal_base.specs.declared.arguments.SockKind.{SockKind}
use Rattle.osal_base.specs.declared.arguments.SockKind.TheVariants as kind
use Rattle.osal_base.specs.declared.status.Status.TheVariants as status
use Rattle.osal_base.specs.Reply.{gives, success}
use Rattle.osal_socket.specs.declared.socket.Socket.{Socket}
use Rattle.osal_socket.specs.declared.socket.Socket.TheVariants as socket
use Rattle.osal_socket.specs.Net.{NetState, Stepped, refused, with_socket, on_socket, is_no_port, has_port, port_of, slot_at_port}

-- a new socket of a kind
abbrev pub new_socket : SockKind → Socket
new_socket kind.Stream = socket.Fresh
new_socket kind.Dgram = socket.Datagrams None []

-- OS_SocketOpen, under the identifier that the stream gets, if there is one: no free identifier; else a new socket
abbrev pub socket_open : NetState → SockKind → Option ℕ → Stepped
socket_open net carried None = refused net status.ErrNoFreeIds
socket_open net carried (Some id) = (gives id, with_socket net id (new_socket carried))

-- what a socket carries
abbrev pub kind_of : Socket → SockKind
kind_of (socket.Datagrams port waiting) = kind.Dgram
kind_of other = kind.Stream

-- whether a socket of the kind has the port, and this one has not
abbrev pub is_taken : NetState → ℕ → Socket → Bool
is_taken net port own =
    is_some (slot_at_port net (kind_of own) port) && not (has_port port (port_of (kind_of own) own))

-- a socket at a port, where it has none and is not connected
abbrev pub bound : ℕ → Socket → Option Socket
bound port socket.Fresh = Some (socket.Bound port)
bound port (socket.Datagrams None waiting) = Some (socket.Datagrams (Some port) waiting)
bound port other = None

-- the socket of a stream is changed where it may be, and is in the wrong state where not
abbrev pub change_to : NetState → ℕ → Option Socket → Stepped
change_to net id None = refused net status.ErrIncorrectObjState
change_to net id (Some changed) = (success, with_socket net id changed)

-- OS_SocketBind: no port of that number; a stream that is no socket; a port that another socket of the kind has; a socket
-- that has a port or is connected
abbrev pub socket_bind : NetState → ℕ → ℕ → Stepped
socket_bind net id port =
    if is_no_port port then refused net status.ErrInvalidArgument
    else on_socket net id (λ own.
    if is_taken net port own then refused net status.Error else change_to net id (bound port own))

-- a call on the socket of a stream that carries connections
abbrev pub of_stream_kind : NetState → Socket → Stepped → Stepped
of_stream_kind net (socket.Datagrams port waiting) stepped = refused net status.ErrIncorrectObjType
of_stream_kind net other stepped = stepped

-- a call on a socket that carries connections; one that carries datagrams is of another type
abbrev pub on_stream_socket : NetState → ℕ → (Socket → Stepped) → Stepped
on_stream_socket net id does = on_socket net id (λ own. of_stream_kind net own (does own))

-- a socket that listens, where it is bound
abbrev pub listening : Socket → Option Socket
listening (socket.Bound port) = Some (socket.Listens port [])
listening other = None

-- OS_SocketListen: a stream that is no socket for connections; one that is not bound, or listens
abbrev pub socket_listen : NetState → ℕ → Stepped
socket_listen net id = on_stream_socket net id (λ own. change_to net id (listening own))
