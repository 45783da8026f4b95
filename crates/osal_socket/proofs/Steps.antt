-- The calls on sockets leave them, or answer with a count: so they are left where the answer is a code below 0, and where the
-- call has to wait, which it has only where it may.
use Rattle.std.proofs.Common.{◌≡◌, ◌==◌, ◌||◌, ℕ, Bool, true, false, cond, not, pos, List, [], ◌∷◌, length, take, nat_lt, Option, Some, None, refl}
use Rattle.std.proofs.lemmas.Bool.{cond_both, false≢true}
use Rattle.osal_base.specs.declared.arguments.How.{How}
use Rattle.osal_base.specs.declared.arguments.SockKind.{SockKind}
use Rattle.osal_base.specs.declared.arguments.SockKind.TheVariants as kind
use Rattle.osal_base.specs.declared.reply.Answer.TheVariants as answer
use Rattle.osal_base.specs.declared.status.Status.{Status}
use Rattle.osal_base.specs.declared.status.Status.TheVariants as status
use Rattle.osal_base.specs.declared.time.Timeout.{Timeout}
use Rattle.osal_base.specs.Reply.{is_waits}
use Rattle.osal_base.specs.Time.{is_check}
use Rattle.osal_socket.specs.declared.side.Side.{Side}
use Rattle.osal_socket.specs.declared.socket.Socket.{Socket}
use Rattle.osal_socket.specs.declared.socket.Socket.TheVariants as socket
use Rattle.osal_socket.specs.Datagram.{Datagram, datagram_limit, waiting_limit}
use Rattle.osal_socket.specs.Connection.{Connection, pipe_limit, own_end, peer_end, is_silent, is_disconnected}
use Rattle.osal_socket.specs.Net.{NetState, Stepped, refused, finds_nothing, with_found, on_socket, socket_at, is_no_port, slot_at_port, at_place}
use Rattle.osal_socket.specs.Binding.{socket_open, change_to, is_taken, bound, socket_bind, of_stream_kind, on_stream_socket, listening, socket_listen}
use Rattle.osal_socket.specs.Connecting.{pending_limit, connected_to, connected_at, connect_from, socket_connect, taken_first, accept_from, socket_accept, with_connection, on_connection, socket_shutdown}
use Rattle.osal_socket.specs.Bytes.{read_from, read, room_at_peer, write_to, write}
use Rattle.osal_socket.specs.Datagrams.{of_datagram_kind, sender, sent_to, sent_at, socket_send, received, received_at, socket_recv}

-- a step leaves the sockets, and has to wait only where it may, or answers with a count
pub data IsNetStep (net : NetState) (wait : Timeout) (stepped : Stepped) : Type 0 where
  Left : stepped.1 ≡ net → (is_waits stepped.0.answer ≡ true → is_check wait ≡ false) → IsNetStep net wait stepped
  Counted : (count : ℕ) → stepped.0.answer ≡ answer.Code (pos count) → IsNetStep net wait stepped

-- a choice of two values that both hold
either : {A : Type 0} (P : A → Type 0) (test : Bool) (first second : A) → P first → P second → P (cond test first second)
either P true first second holds other = holds
either P false first second holds other = other

module _ (net : NetState) (wait : Timeout) where
  -- such a step of a call that may wait so long
  abbrev Steps : Stepped → Type 0
  Steps stepped = IsNetStep net wait stepped

  refuses : (fault : Status) → Steps (refused net fault)
  refuses fault = Left refl (λ waits. absurd (false≢true waits))

  finds : Steps (finds_nothing net wait)
  finds =
      cond_both (is_check wait) _ _ Steps
      (λ check. refuses status.ErrorTimeout)
      (λ may. Left refl (λ waits. may))

  found_steps : (does : Socket → Stepped) → ((own : Socket) → Steps (does own)) → (found : Option Socket) → Steps (with_found net does found)
  found_steps does steps None = refuses status.ErrIncorrectObjType
  found_steps does steps (Some own) = steps own

  socket_steps : (id : ℕ) (does : Socket → Stepped) → ((own : Socket) → Steps (does own)) → Steps (on_socket net id does)
  socket_steps id does steps = found_steps does steps (socket_at net id)

  kind_steps : (own : Socket) (stepped : Stepped) → Steps stepped → Steps (of_stream_kind net own stepped)
  kind_steps (socket.Datagrams port waiting) stepped steps = refuses status.ErrIncorrectObjType
  kind_steps _ stepped steps = steps

  stream_steps : (id : ℕ) (does : Socket → Stepped) → ((own : Socket) → Steps (does own)) → Steps (on_stream_socket net id does)
  stream_steps id does steps = socket_steps id _ (λ own. kind_steps own (does own) (steps own))

  change_steps : (id : ℕ) (changed : Option Socket) → Steps (change_to net id changed)
  change_steps id None = refuses status.ErrIncorrectObjState
  change_steps id (Some own) = Counted 0 refl

  -- opening
  pub open_steps : (carried : SockKind) (id : Option ℕ) → Steps (socket_open net carried id)
  open_steps carried None = refuses status.ErrNoFreeIds
  open_steps carried (Some id) = Counted 0 refl

  -- binding
  pub bind_steps : (id port : ℕ) → Steps (socket_bind net id port)
  bind_steps id port =
      either Steps (is_no_port port) _ _ (refuses status.ErrInvalidArgument)
      (socket_steps id _ (λ own.
      either Steps (is_taken net port own) _ _ (refuses status.Error) (change_steps id (bound port own))))

  -- listening
  pub listen_steps : (id : ℕ) → Steps (socket_listen net id)
  listen_steps id = stream_steps id _ (λ own. change_steps id (listening own))

  to_steps : (id listener : ℕ) (found : Option Socket) → Steps (connected_to net id listener found)
  to_steps id listener (Some (socket.Listens port pending)) =
      either Steps (nat_lt (length pending) pending_limit) _ _ (Counted 0 refl) (refuses status.Error)
  to_steps id listener _ = refuses status.Error

  at_steps : (id : ℕ) (slot : Option ℕ) → Steps (connected_at net id slot)
  at_steps id None = refuses status.Error
  at_steps id (Some listener) = to_steps id listener (at_place net.sockets listener)

  from_steps : (id port : ℕ) (own : Socket) → Steps (connect_from net id port own)
  from_steps id port socket.Fresh = at_steps id (slot_at_port net kind.Stream port)
  from_steps id port _ = refuses status.ErrIncorrectObjState

  -- connecting
  pub connect_steps : (id port : ℕ) → Steps (socket_connect net id port)
  connect_steps id port =
      either Steps (is_no_port port) _ _ (refuses status.ErrInvalidArgument) (stream_steps id _ (from_steps id port))

  first_steps : (id port number : ℕ) (pending : List ℕ) (stream : Option ℕ) → Steps (taken_first net id port number pending stream)
  first_steps id port number pending None = refuses status.ErrNoFreeIds
  first_steps id port number pending (Some stream) = Counted 0 refl

  accepted_steps : (id : ℕ) (stream : Option ℕ) (own : Socket) → Steps (accept_from net id wait stream own)
  accepted_steps id stream (socket.Listens port []) = finds
  accepted_steps id stream (socket.Listens port (number ∷ pending)) = first_steps id port number pending stream
  accepted_steps id stream _ = refuses status.ErrIncorrectObjState

  -- accepting
  pub accept_steps : (id : ℕ) (stream : Option ℕ) → Steps (socket_accept net id wait stream)
  accept_steps id stream = stream_steps id _ (accepted_steps id stream)

  with_steps : (does : Connection → Stepped) → ((connection : Connection) → Steps (does connection)) → (found : Option Connection) → Steps (with_connection net does found)
  with_steps does steps None = refuses status.ErrIncorrectObjState
  with_steps does steps (Some connection) = steps connection

  connection_steps : (does : ℕ → Side → Connection → Stepped) → ((number : ℕ) (own : Side) (connection : Connection) → Steps (does number own connection)) → (own : Socket) → Steps (on_connection net does own)
  connection_steps does steps (socket.Connected number own) =
      with_steps (does number own) (steps number own) (at_place net.connections number)
  connection_steps does steps _ = refuses status.ErrIncorrectObjState

  -- shutting down
  pub shutdown_steps : (id : ℕ) (which : How) → Steps (socket_shutdown net id which)
  shutdown_steps id which =
      stream_steps id _ (connection_steps _ (λ number own connection. Counted 0 refl))

  read_from_steps : (n number : ℕ) (own : Side) (connection : Connection) → Steps (read_from net n wait number own connection)
  read_from_steps n number own connection =
      either Steps (not (own_end own connection).reads) _ _ (Counted 0 refl)
      (either Steps (nat_lt 0 (length (own_end own connection).incoming)) _ _
      (Counted (length (take n (own_end own connection).incoming)) refl)
      (either Steps (is_silent (peer_end own connection)) _ _ (Counted 0 refl) finds))

  -- reading
  pub read_steps : (id n : ℕ) → Steps (read net id n wait)
  read_steps id n =
      either Steps ((n == 0) || nat_lt 1024 n) _ _ (refuses status.ErrInvalidSize)
      (stream_steps id _ (connection_steps _ (read_from_steps n)))

  write_to_steps : (payload : List ℕ) (number : ℕ) (own : Side) (connection : Connection) → Steps (write_to net payload number own connection)
  write_to_steps payload number own connection =
      either Steps (is_disconnected own connection) _ _ (refuses status.ErrStreamDisconnected)
      (either Steps (nat_lt (length (peer_end own connection).incoming) pipe_limit) _ _
      (Counted (room_at_peer own connection payload) refl) (refuses status.Error))

  -- writing
  pub write_steps : (id : ℕ) (payload : List ℕ) → Steps (write net id payload)
  write_steps id payload =
      either Steps ((length payload == 0) || nat_lt 4096 (length payload)) _ _ (refuses status.ErrInvalidSize)
      (stream_steps id _ (connection_steps _ (write_to_steps payload)))

  datagram_steps : (does : Option ℕ → List Datagram → Stepped) → ((port : Option ℕ) (waiting : List Datagram) → Steps (does port waiting)) → (own : Socket) → Steps (of_datagram_kind net does own)
  datagram_steps does steps (socket.Datagrams port waiting) = steps port waiting
  datagram_steps does steps _ = refuses status.ErrIncorrectObjType

  sent_to_steps : (datagram : Datagram) (slot : ℕ) (found : Option Socket) → Steps (sent_to net datagram slot found)
  sent_to_steps datagram slot (Some (socket.Datagrams port waiting)) =
      either Steps (nat_lt (length waiting) waiting_limit) _ _
      (Counted (length datagram.bytes) refl) (refuses status.Error)
  sent_to_steps datagram slot _ = refuses status.Error

  sent_at_steps : (datagram : Datagram) (slot : Option ℕ) → Steps (sent_at net datagram slot)
  sent_at_steps datagram None = refuses status.Error
  sent_at_steps datagram (Some slot) = sent_to_steps datagram slot (at_place net.sockets slot)

  -- sending a datagram
  pub send_steps : (id : ℕ) (payload : List ℕ) (port : ℕ) → Steps (socket_send net id payload port)
  send_steps id payload port =
      either Steps ((length payload == 0) || nat_lt datagram_limit (length payload)) _ _ (refuses status.ErrInvalidSize)
      (either Steps (is_no_port port) _ _ (refuses status.ErrInvalidArgument)
      (socket_steps id _ (datagram_steps _ (λ own waiting.
      sent_at_steps (record { from = sender own; bytes = payload }) (slot_at_port net kind.Dgram port)))))

  received_steps : (id n port : ℕ) (waiting : List Datagram) → Steps (received net id n wait port waiting)
  received_steps id n port [] = finds
  received_steps id n port (datagram ∷ waiting) =
      Counted (length (take n datagram.bytes)) refl

  received_at_steps : (id n : ℕ) (port : Option ℕ) (waiting : List Datagram) → Steps (received_at net id n wait port waiting)
  received_at_steps id n None waiting = refuses status.ErrIncorrectObjState
  received_at_steps id n (Some port) waiting = received_steps id n port waiting

  -- receiving one
  pub recv_steps : (id n : ℕ) → Steps (socket_recv net id n wait)
  recv_steps id n =
      either Steps ((n == 0) || nat_lt datagram_limit n) _ _ (refuses status.ErrInvalidSize)
      (socket_steps id _ (datagram_steps _ (received_at_steps id n)))
