-- Closing a socket whose stream goes.
use Rattle.std.specs.Prelude.{List, [], ◌∷◌, ℕ, Option, Some, None}
use Rattle.osal_base.specs.Reply.{success}
use Rattle.osal_socket.specs.declared.side.Side.{Side}
use Rattle.osal_socket.specs.declared.side.Side.TheVariants as side
use Rattle.osal_socket.specs.declared.socket.Socket.{Socket}
use Rattle.osal_socket.specs.declared.socket.Socket.TheVariants as socket
use Rattle.osal_socket.specs.Connection.{Connection, without_end}
use Rattle.osal_socket.specs.Net.{NetState, Stepped, socket_at, with_slot, at_place, with_place}

-- what is left of a connection that may be there, once one of its ends is closed
abbrev pub ended : Side → Option Connection → Option Connection
ended own None = None
ended own (Some connection) = without_end own connection

-- the connections once one end of that number is closed
abbrev pub without_end_of : List (Option Connection) → ℕ → Side → List (Option Connection)
without_end_of connections number own = with_place connections number (ended own (at_place connections number))

-- the connections once the ends that wait to be accepted are closed
abbrev pub without_pending : List (Option Connection) → List ℕ → List (Option Connection)
without_pending connections [] = connections
without_pending connections (number ∷ numbers) =
    without_pending (without_end_of connections number side.Server) numbers

-- the connections without what a socket has of them: its end, or those that wait at it
abbrev pub left_by : List (Option Connection) → Option Socket → List (Option Connection)
left_by connections (Some (socket.Connected number own)) = without_end_of connections number own
left_by connections (Some (socket.Listens port pending)) = without_pending connections pending
left_by connections other = connections

-- OS_close of a socket: bytes that were sent stay readable, and its port is free
abbrev pub close : NetState → ℕ → Stepped
close net id = (
  success,
  record {
    sockets = with_slot net.sockets id None;
    connections = left_by net.connections (socket_at net id);
  },
)
