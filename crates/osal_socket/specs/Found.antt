-- What is found in the place of a socket.
use Rattle.std.specs.Prelude.{List, [], ℕ, Bool, false, Option, Some, None, Result, Ok, Err, length, nat_lt}
use Rattle.osal_base.specs.declared.status.Status.{Status}
use Rattle.osal_base.specs.declared.status.Status.TheVariants as status
use Rattle.osal_socket.specs.declared.side.Side.{Side}
use Rattle.osal_socket.specs.declared.socket.Socket.{Socket}
use Rattle.osal_socket.specs.declared.socket.Socket.TheVariants as socket
use Rattle.osal_socket.specs.Datagram.{Datagram, waiting_limit}
use Rattle.osal_socket.specs.Connecting.{pending_limit}

-- the number of a connection and a side of it, or why there is none
abbrev pub connected : Option Socket → Result (ℕ × Side) Status
connected (Some (socket.Connected number own)) = Ok (number, own)
connected (Some (socket.Datagrams port waiting)) = Err status.ErrIncorrectObjType
connected (Some other) = Err status.ErrIncorrectObjState
connected None = Err status.ErrIncorrectObjType

-- whether something listens, and one more connection may wait there
abbrev pub takes_more : Option Socket → Bool
takes_more (Some (socket.Listens port pending)) = nat_lt (length pending) pending_limit
takes_more other = false

-- the connections that wait to be accepted there
abbrev pub pending_in : Option Socket → List ℕ
pending_in (Some (socket.Listens port pending)) = pending
pending_in other = []

-- the same with others that wait
abbrev pub with_pending : List ℕ → Option Socket → Option Socket
with_pending pending (Some (socket.Listens port others)) = Some (socket.Listens port pending)
with_pending pending other = other

-- whether something carries datagrams, and one more may wait there
abbrev pub takes_datagram : Option Socket → Bool
takes_datagram (Some (socket.Datagrams port waiting)) = nat_lt (length waiting) waiting_limit
takes_datagram other = false

-- the datagrams that wait there
abbrev pub datagrams_in : Option Socket → List Datagram
datagrams_in (Some (socket.Datagrams port waiting)) = waiting
datagrams_in other = []

-- the same with others that wait
abbrev pub with_datagrams : List Datagram → Option Socket → Option Socket
with_datagrams waiting (Some (socket.Datagrams port others)) = Some (socket.Datagrams port waiting)
with_datagrams waiting other = other
