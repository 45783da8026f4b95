-- The bytes of a connection: reading and writing.
use Rattle.std.specs.Prelude.{◌==◌, ◌||◌, ◌++◌, ◌-◌, List, [], ℕ, not, length, take, drop, min, nat_lt, if◌then◌else◌}
use Rattle.osal_base.specs.declared.status.Status.TheVariants as status
use Rattle.osal_base.specs.declared.time.Timeout.{Timeout}
use Rattle.osal_socket.specs.declared.side.Side.{Side}
use Rattle.osal_socket.specs.Connection.{Connection, pipe_limit, own_end, peer_end, with_own, with_peer, is_silent, is_disconnected}
use Rattle.osal_socket.specs.Net.{NetState, Stepped, refused, finds_nothing, counts}
use Rattle.osal_socket.specs.Binding.{on_stream_socket}
use Rattle.osal_socket.specs.Connecting.{on_connection, put_connection}

-- the first bytes that came to an end are taken, at most so many
abbrev pub taken_bytes : NetState → ℕ → Side → Connection → ℕ → Stepped
taken_bytes net number own connection n =
    let incoming = (own_end own connection).incoming in (
      counts (length (take n incoming)) 0 (take n incoming),
      put_connection net number (with_own own connection (record (own_end own connection) { incoming = drop n incoming })),
    )

-- a read at an end of a connection: nothing, where it reads no more; the bytes that are there; nothing, where nothing
-- more comes; else it has to wait
abbrev pub read_from : NetState → ℕ → Timeout → ℕ → Side → Connection → Stepped
read_from net n wait number own connection =
    if not (own_end own connection).reads then (counts 0 0 [], net)
    else (if nat_lt 0 (length (own_end own connection).incoming) then taken_bytes net number own connection n
    else (if is_silent (peer_end own connection) then (counts 0 0 [], net)
    else finds_nothing net wait))

-- OS_read of a socket: a count of none or above 1,024; a stream that is no socket for connections; one that is not
-- connected; nothing to read, where it may not wait
abbrev pub read : NetState → ℕ → ℕ → Timeout → Stepped
read net id n wait =
    if (n == 0) || nat_lt 1024 n then refused net status.ErrInvalidSize
    else on_stream_socket net id (on_connection net (read_from net n wait))

-- how many of some bytes the peer of an end takes
abbrev pub room_at_peer : Side → Connection → List ℕ → ℕ
room_at_peer own connection payload = min (length payload) (pipe_limit - length (peer_end own connection).incoming)

-- the first of some bytes are put at the peer, so many
abbrev pub put_bytes : NetState → ℕ → Side → Connection → List ℕ → ℕ → Stepped
put_bytes net number own connection payload count =
    let peer = peer_end own connection in (
      counts count 0 [],
      put_connection net number (with_peer own connection (record peer { incoming = peer.incoming ++ take count payload })),
    )

-- a write at an end of a connection: the stream is disconnected; the peer is full; else as many bytes as it takes
abbrev pub write_to : NetState → List ℕ → ℕ → Side → Connection → Stepped
write_to net payload number own connection =
    if is_disconnected own connection then refused net status.ErrStreamDisconnected
    else (if nat_lt (length (peer_end own connection).incoming) pipe_limit
    then put_bytes net number own connection payload (room_at_peer own connection payload)
    else refused net status.Error)

-- OS_write of a socket: no bytes or above 4,096; a stream that is no socket for connections; one that is not connected;
-- a stream that is disconnected; a peer that is full
abbrev pub write : NetState → ℕ → List ℕ → Stepped
write net id payload =
    if (length payload == 0) || nat_lt 4096 (length payload) then refused net status.ErrInvalidSize
    else on_stream_socket net id (on_connection net (write_to net payload))
