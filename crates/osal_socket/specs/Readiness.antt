-- Which sockets are ready to be read or written.
use Rattle.std.specs.Prelude.{ℕ, Bool, true, false, not, List, [], Option, Some, None, length, nat_lt}
use Rattle.osal_select.specs.declared.ready.Ready.{Ready}
use Rattle.osal_socket.specs.declared.side.Side.{Side}
use Rattle.osal_socket.specs.declared.socket.Socket.{Socket}
use Rattle.osal_socket.specs.declared.socket.Socket.TheVariants as socket
use Rattle.osal_socket.specs.Connection.{Connection, may_read_now, may_write_now}
use Rattle.osal_socket.specs.Net.{NetState, socket_at, at_place}

-- what is ready of an end of a connection that may be there
abbrev pub ready_end : Side → Option Connection → Ready
ready_end own None = record { readable = false; writable = false }
ready_end own (Some connection) =
    record { readable = may_read_now own connection; writable = may_write_now own connection }

-- a listener is readable where a connection waits; a socket for datagrams where one waits, and is always writable; a
-- connected one where a read, and a write, would not have to wait
abbrev pub ready_socket : NetState → Option Socket → Ready
ready_socket net (Some (socket.Listens port pending)) = record { readable = nat_lt 0 (length pending); writable = false }
ready_socket net (Some (socket.Datagrams port waiting)) = record { readable = nat_lt 0 (length waiting); writable = true }
ready_socket net (Some (socket.Connected number own)) = ready_end own (at_place net.connections number)
ready_socket net other = record { readable = false; writable = false }

-- what is ready of the socket of a stream
abbrev pub ready : NetState → ℕ → Ready
ready net id = ready_socket net (socket_at net id)

-- whether a read at an end of a connection that may be there would have to wait
abbrev pub end_waits : Side → Option Connection → Bool
end_waits own None = false
end_waits own (Some connection) = not (may_read_now own connection)

-- whether a read of a socket would have to wait
abbrev pub socket_reads_late : NetState → Option Socket → Bool
socket_reads_late net (Some (socket.Connected number own)) = end_waits own (at_place net.connections number)
socket_reads_late net other = false

-- the same of the socket of a stream
abbrev pub reads_late : NetState → ℕ → Bool
reads_late net id = socket_reads_late net (socket_at net id)

-- whether an accept by a socket would have to wait
abbrev pub socket_accepts_late : Option Socket → Bool
socket_accepts_late (Some (socket.Listens port [])) = true
socket_accepts_late other = false

-- whether a receive by a socket would have to wait
abbrev pub socket_receives_late : Option Socket → Bool
socket_receives_late (Some (socket.Datagrams (Some port) [])) = true
socket_receives_late other = false
