-- The calls on sockets, by their streams.
use Rattle.std.specs.Prelude.{◌==◌, ◌||◌, List, [], ◌∷◌, ℕ, length, nat_lt, if◌then◌else◌}
use Rattle.osal_base.specs.declared.arguments.How.{How}
use Rattle.osal_base.specs.declared.arguments.SockKind.{SockKind}
use Rattle.osal_base.specs.declared.status.Status.TheVariants as status
use Rattle.osal_base.specs.declared.time.Moment.{Moment}
use Rattle.osal_base.specs.declared.time.Timeout.{Timeout}
use Rattle.osal_base.specs.Reply.{Replied}
use Rattle.osal_socket.specs.Datagram.{datagram_limit}
use Rattle.osal_socket.specs.Net.{NetState, is_no_port}
use Rattle.osal_socket.specs.Binding as of_binding
use Rattle.osal_socket.specs.Connecting as of_connecting
use Rattle.osal_socket.specs.Datagrams as of_datagrams
use Rattle.osal_io.specs.declared.awaited.Awaited.TheVariants as awaited
use Rattle.osal_io.specs.Io.{IoState, Stepped, refused, in_net, next_stream, connected, on_stream, or_wait}

-- a step of the sockets, on a stream that is there
abbrev pub on_net : IoState → ℕ → Replied × NetState → Stepped
on_net io id stepped = on_stream io id (λ what. in_net io stepped)

-- an open takes the identifier that a new stream gets
abbrev pub socket_open : IoState → SockKind → Stepped
socket_open io carried = connected io (of_binding.socket_open io.net carried (next_stream io))

-- a bind: its port is looked at before the stream is
abbrev pub socket_bind : IoState → ℕ → ℕ → Stepped
socket_bind io id port =
    if is_no_port port then refused io status.ErrInvalidArgument
    else on_net io id (of_binding.socket_bind io.net id port)

-- a socket listens
abbrev pub socket_listen : IoState → ℕ → Stepped
socket_listen io id = on_net io id (of_binding.socket_listen io.net id)

-- a connect: its port is looked at before the stream is
abbrev pub socket_connect : IoState → ℕ → ℕ → Stepped
socket_connect io id port =
    if is_no_port port then refused io status.ErrInvalidArgument
    else on_net io id (of_connecting.socket_connect io.net id port)

-- an accept that may have to wait takes the identifier that a new stream gets
abbrev pub accept_now : IoState → ℕ → Timeout → Stepped
accept_now io id wait =
    on_stream io id (λ what. connected io (of_connecting.socket_accept io.net id wait (next_stream io)))

-- an accept
abbrev pub socket_accept : IoState → ℕ → Moment → ℕ → Timeout → Stepped
socket_accept io task now id wait = or_wait io task now (awaited.Accept id) (id ∷ []) wait (accept_now io id wait)

-- a datagram is sent: its size and its port are looked at before the stream is
abbrev pub socket_send : IoState → ℕ → List ℕ → ℕ → Stepped
socket_send io id payload port =
    if (length payload == 0) || nat_lt datagram_limit (length payload) then refused io status.ErrInvalidSize
    else (if is_no_port port then refused io status.ErrInvalidArgument
    else on_net io id (of_datagrams.socket_send io.net id payload port))

-- a receive that may have to wait: its size is looked at before the stream is
abbrev pub receive_now : IoState → ℕ → ℕ → Timeout → Stepped
receive_now io id n wait =
    if (n == 0) || nat_lt datagram_limit n then refused io status.ErrInvalidSize
    else on_net io id (of_datagrams.socket_recv io.net id n wait)

-- a receive
abbrev pub socket_recv : IoState → ℕ → Moment → ℕ → ℕ → Timeout → Stepped
socket_recv io task now id n wait =
    or_wait io task now (awaited.Receive id n) (id ∷ []) wait (receive_now io id n wait)

-- a connection is shut down
abbrev pub socket_shutdown : IoState → ℕ → How → Stepped
socket_shutdown io id which = on_net io id (of_connecting.socket_shutdown io.net id which)
