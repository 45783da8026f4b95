-- A connection of two sockets, by its two ends.
use Rattle.std.specs.Prelude.{◌||◌, List, [], ℕ, Bool, true, false, not, Option, Some, None, length, nat_lt, if◌then◌else◌}
use Rattle.osal_socket.specs.declared.side.Side.{Side}
use Rattle.osal_socket.specs.declared.side.Side.TheVariants as side

-- the most bytes that wait at an end
abbrev pub pipe_limit : ℕ
pipe_limit = 4096

-- an end: the bytes that came to it and are not read yet, the oldest first, whether it still reads, whether it still
-- writes, and whether it is closed
pub record End : Type 0 where
  pub incoming : List ℕ
  pub reads : Bool
  pub writes : Bool
  pub closed : Bool

-- a connection: the end of the socket that asked for it, and the end at the socket that listened
pub record Connection : Type 0 where
  pub client : End
  pub server : End

-- an end at which nothing has happened
abbrev pub new_end : End
new_end = record { incoming = []; reads = true; writes = true; closed = false }

-- a connection at which nothing has happened
abbrev pub new_connection : Connection
new_connection = record { client = new_end; server = new_end }

-- one end of a connection
abbrev pub own_end : Side → Connection → End
own_end side.Client connection = connection.client
own_end side.Server connection = connection.server

-- the other one
abbrev pub peer_end : Side → Connection → End
peer_end side.Client connection = connection.server
peer_end side.Server connection = connection.client

-- a connection with another end of its own
abbrev pub with_own : Side → Connection → End → Connection
with_own side.Client connection end = record connection { client = end }
with_own side.Server connection end = record connection { server = end }

-- a connection with another end at the peer
abbrev pub with_peer : Side → Connection → End → Connection
with_peer side.Client connection end = record connection { server = end }
with_peer side.Server connection end = record connection { client = end }

-- nothing more comes from an end that is closed or writes no more
abbrev pub is_silent : End → Bool
is_silent end = end.closed || not end.writes

-- nothing more goes to an end that is closed or reads no more
abbrev pub is_deaf : End → Bool
is_deaf end = end.closed || not end.reads

-- a read at an end would not wait: it reads no more, a byte is there, or nothing more comes
abbrev pub may_read_now : Side → Connection → Bool
may_read_now side connection =
    not (own_end side connection).reads
    || nat_lt 0 (length (own_end side connection).incoming)
    || is_silent (peer_end side connection)

-- a write at an end answers that the stream is disconnected: it writes no more, or nothing more goes to the peer
abbrev pub is_disconnected : Side → Connection → Bool
is_disconnected side connection = not (own_end side connection).writes || is_deaf (peer_end side connection)

-- a write at an end would not find the peer full
abbrev pub may_write_now : Side → Connection → Bool
may_write_now side connection =
    is_disconnected side connection || nat_lt (length (peer_end side connection).incoming) pipe_limit

-- a connection once an end is closed: it is over where the peer is closed too
abbrev pub without_end : Side → Connection → Option Connection
without_end side connection =
    if (peer_end side connection).closed then None
    else Some (with_own side connection (record (own_end side connection) { closed = true }))
