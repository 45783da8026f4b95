-- The calls on streams, files or sockets, as steps that may have to wait.
use Rattle.std.proofs.Common.{◌==◌, ◌||◌, ℕ, ℤ, List, [], ◌∷◌, length, nat_lt}
use Rattle.osal_base.specs.declared.arguments.Access.{Access}
use Rattle.osal_base.specs.declared.arguments.How.{How}
use Rattle.osal_base.specs.declared.arguments.OpenFlags.{OpenFlags}
use Rattle.osal_base.specs.declared.arguments.SockKind.{SockKind}
use Rattle.osal_base.specs.declared.arguments.Whence.{Whence}
use Rattle.osal_base.specs.declared.status.Status.TheVariants as status
use Rattle.osal_base.specs.declared.time.Timeout.{Timeout}
use Rattle.osal_base.specs.declared.time.Timeout.TheVariants as timeout
use Rattle.osal_object.proofs.Moves.{either}
use Rattle.osal_socket.specs.Datagram.{datagram_limit}
use Rattle.osal_socket.specs.Net.{is_no_port}
use Rattle.osal_socket.proofs.Steps as net
use Rattle.osal_io.specs.Io.{IoState, next_stream, open_file, read_now, write, lseek}
use Rattle.osal_io.specs.Sockets.{socket_open, socket_bind, socket_listen, socket_connect, accept_now, socket_send, receive_now, socket_shutdown}
use Rattle.osal_io.proofs.StreamSteps.{open_beside, reads_beside, writes_beside, seeks_beside}
use Rattle.osal_io.proofs.Tried.{Tries, refuses, beside_tries, kind_tries, net_tries, connected_tries, opened_tries, stream_tries, socket_tries}

module _ (io : IoState) where
  -- opening a file
  pub open_tries : (path : List ℕ) (flags : OpenFlags) (access : Access) → Tries io timeout.Check [] (open_file io path flags access)
  open_tries path flags access =
      opened_tries io timeout.Check _ (open_beside io.files path flags access (next_stream io))

  -- reading
  pub read_tries : (id n : ℕ) (wait : Timeout) → Tries io wait (id ∷ []) (read_now io id n wait)
  read_tries id n wait =
      either (Tries io wait (id ∷ [])) ((n == 0) || nat_lt 1024 n) _ _ (refuses io wait (id ∷ []) status.ErrInvalidSize)
      (stream_tries io wait id _ (λ what apart.
      kind_tries io wait (id ∷ []) _ _ (beside_tries io wait (id ∷ []) _ (reads_beside io.files id n))
      (net_tries io wait (id ∷ []) apart _ (net.read_steps io.net wait id n)) what))

  -- writing
  pub write_tries : (id : ℕ) (payload : List ℕ) → Tries io timeout.Check (id ∷ []) (write io id payload)
  write_tries id payload =
      either (Tries io timeout.Check (id ∷ [])) ((length payload == 0) || nat_lt 4096 (length payload)) _ _
      (refuses io timeout.Check (id ∷ []) status.ErrInvalidSize)
      (stream_tries io timeout.Check id _ (λ what apart.
      kind_tries io timeout.Check (id ∷ []) _ _ (beside_tries io timeout.Check (id ∷ []) _ (writes_beside io.files id payload))
      (net_tries io timeout.Check (id ∷ []) apart _ (net.write_steps io.net timeout.Check id payload)) what))

  -- seeking
  pub lseek_tries : (id : ℕ) (offset : ℤ) (whence : Whence) → Tries io timeout.Check (id ∷ []) (lseek io id offset whence)
  lseek_tries id offset whence =
      stream_tries io timeout.Check id _ (λ what apart.
      kind_tries io timeout.Check (id ∷ []) _ _ (beside_tries io timeout.Check (id ∷ []) _ (seeks_beside io.files id offset whence))
      (refuses io timeout.Check (id ∷ []) status.ErrIncorrectObjType) what)

  -- opening a socket
  pub socket_open_tries : (carried : SockKind) → Tries io timeout.Check [] (socket_open io carried)
  socket_open_tries carried =
      connected_tries io timeout.Check [] tt _ (net.open_steps io.net timeout.Check carried (next_stream io))

  -- binding
  pub bind_tries : (id port : ℕ) → Tries io timeout.Check (id ∷ []) (socket_bind io id port)
  bind_tries id port =
      either (Tries io timeout.Check (id ∷ [])) (is_no_port port) _ _
      (refuses io timeout.Check (id ∷ []) status.ErrInvalidArgument)
      (socket_tries io timeout.Check id _ (net.bind_steps io.net timeout.Check id port))

  -- listening
  pub listen_tries : (id : ℕ) → Tries io timeout.Check (id ∷ []) (socket_listen io id)
  listen_tries id = socket_tries io timeout.Check id _ (net.listen_steps io.net timeout.Check id)

  -- connecting
  pub connect_tries : (id port : ℕ) → Tries io timeout.Check (id ∷ []) (socket_connect io id port)
  connect_tries id port =
      either (Tries io timeout.Check (id ∷ [])) (is_no_port port) _ _
      (refuses io timeout.Check (id ∷ []) status.ErrInvalidArgument)
      (socket_tries io timeout.Check id _ (net.connect_steps io.net timeout.Check id port))

  -- accepting
  pub accept_tries : (id : ℕ) (wait : Timeout) → Tries io wait (id ∷ []) (accept_now io id wait)
  accept_tries id wait =
      stream_tries io wait id _ (λ what apart.
      connected_tries io wait (id ∷ []) apart _ (net.accept_steps io.net wait id (next_stream io)))

  -- sending a datagram
  pub send_tries : (id : ℕ) (payload : List ℕ) (port : ℕ) → Tries io timeout.Check (id ∷ []) (socket_send io id payload port)
  send_tries id payload port =
      either (Tries io timeout.Check (id ∷ [])) ((length payload == 0) || nat_lt datagram_limit (length payload)) _ _
      (refuses io timeout.Check (id ∷ []) status.ErrInvalidSize)
      (either (Tries io timeout.Check (id ∷ [])) (is_no_port port) _ _
      (refuses io timeout.Check (id ∷ []) status.ErrInvalidArgument)
      (socket_tries io timeout.Check id _ (net.send_steps io.net timeout.Check id payload port)))

  -- receiving one
  pub receive_tries : (id n : ℕ) (wait : Timeout) → Tries io wait (id ∷ []) (receive_now io id n wait)
  receive_tries id n wait =
      either (Tries io wait (id ∷ [])) ((n == 0) || nat_lt datagram_limit n) _ _ (refuses io wait (id ∷ []) status.ErrInvalidSize)
      (socket_tries io wait id _ (net.recv_steps io.net wait id n))

  -- shutting a connection down
  pub shutdown_tries : (id : ℕ) (which : How) → Tries io timeout.Check (id ∷ []) (socket_shutdown io id which)
  shutdown_tries id which = socket_tries io timeout.Check id _ (net.shutdown_steps io.net timeout.Check id which)
