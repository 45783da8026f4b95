-- The io part: the streams, the files and sockets behind them, and what a call does to them.
use Rattle.std.specs.Prelude.{◌==◌, ◌||◌, List, [], ◌∷◌, ℕ, Bool, Option, Some, None, Result, Ok, Err, length, nat_lt, is_some, if◌then◌else◌}
use Rattle.std.proofs.Common.{ℤ}
use Rattle.osal_base.specs.declared.arguments.Access.{Access}
use Rattle.osal_base.specs.declared.arguments.OpenFlags.{OpenFlags}
use Rattle.osal_base.specs.declared.arguments.Whence.{Whence}
use Rattle.osal_base.specs.declared.status.Status.{Status}
use Rattle.osal_base.specs.declared.status.Status.TheVariants as status
use Rattle.osal_base.specs.declared.id.ObjType.TheVariants as kind
use Rattle.osal_base.specs.declared.limits.Limits.{Limits}
use Rattle.osal_base.specs.declared.time.Moment.{Moment}
use Rattle.osal_base.specs.declared.time.Timeout.{Timeout}
use Rattle.osal_base.specs.Identifier.{type_number, type_of}
use Rattle.osal_base.specs.Reply.{Replied, refusal, is_success, is_waits}
use Rattle.osal_idtable.specs.declared.table.ReserveFault.{ReserveFault}
use Rattle.osal_idtable.specs.declared.table.IdFault.{IdFault}
use Rattle.osal_idtable.specs.Table.{Active, active_at}
use Rattle.osal_idtable.specs.Steps.{peeked, reserve_step, remove_step}
use Rattle.osal_object.specs.Objects.{ObjectsState, no_objects, create_step, delete_step, hold_call_step, release_call_step}
use Rattle.osal_object.specs.Waits.{new_wait}
use Rattle.osal_object.specs.Waiting.{begin_step}
use Rattle.osal_file.specs.Files.{FilesState, no_files}
use Rattle.osal_file.specs.Streams as of_streams
use Rattle.osal_file.specs.Held as of_held
use Rattle.osal_socket.specs.Net.{NetState, no_sockets}
use Rattle.osal_socket.specs.Bytes as of_bytes
use Rattle.osal_socket.specs.Closing as of_closing
use Rattle.osal_io.specs.declared.awaited.Awaited.{Awaited}
use Rattle.osal_io.specs.declared.awaited.Awaited.TheVariants as awaited
use Rattle.osal_io.specs.declared.part.Stream.{Stream}
use Rattle.osal_io.specs.declared.part.Stream.TheVariants as stream

-- the io part: the streams with the calls that wait on them, the files with their volumes, mounts and directories, and
-- the sockets
pub record IoState : Type 0 where
  pub streams : ObjectsState Stream Awaited
  pub files : FilesState
  pub net : NetState

-- no streams, no files and no sockets
abbrev pub no_io : Limits → IoState
no_io limits = record {
  streams = no_objects (type_number kind.Stream) limits.streams limits.tasks;
  files = no_files limits;
  net = no_sockets limits;
}

-- a reply, and the part after the call
abbrev pub Stepped : Type 0
Stepped = Replied × IoState

-- a refused call changes nothing
abbrev pub refused : IoState → Status → Stepped
refused io fault = (refusal fault, io)

-- a step of the files is a step of the part
abbrev pub in_files : IoState → Replied × FilesState → Stepped
in_files io stepped = (stepped.0, record io { files = stepped.1 })

-- a step of the sockets is a step of the part
abbrev pub in_net : IoState → Replied × NetState → Stepped
in_net io stepped = (stepped.0, record io { net = stepped.1 })

-- a step of the streams is a step of the part
abbrev pub in_streams : IoState → Replied × ObjectsState Stream Awaited → Stepped
in_streams io stepped = (stepped.0, record io { streams = stepped.1 })

-- the stream under an identifier, if it is active
abbrev pub stream_at : IoState → ℕ → Option (Active Stream)
stream_at io id = active_at io.streams.table id

-- what a stream is, if it is there
abbrev pub stream_under : Option (Active Stream) → Option Stream
stream_under None = None
stream_under (Some active) = Some active.object

-- the identifier that is given, if one is free
abbrev pub free_id : Result ℕ ReserveFault → Option ℕ
free_id (Ok id) = Some id
free_id (Err fault) = None

-- the identifier that a new stream gets, if one is free
abbrev pub next_stream : IoState → Option ℕ
next_stream io = free_id (peeked (reserve_step io.streams.table None).0)

-- the streams after a call that gives a stream: a new one where it succeeded
abbrev pub streams_after : IoState → Stream → Replied → ObjectsState Stream Awaited
streams_after io made reply = if is_success reply.answer then (create_step io.streams None made).1 else io.streams

-- the part after a call that gives the stream of a file
abbrev pub opened : IoState → Replied × FilesState → Stepped
opened io stepped = (stepped.0, record io { streams = streams_after io stream.File stepped.0; files = stepped.1 })

-- the part after a call that gives the stream of a socket
abbrev pub connected : IoState → Replied × NetState → Stepped
connected io stepped = (stepped.0, record io { streams = streams_after io stream.Socket stepped.0; net = stepped.1 })

-- an open takes the identifier that a new stream gets
abbrev pub open_file : IoState → List ℕ → OpenFlags → Access → Stepped
open_file io path flags access = opened io (of_streams.open_file io.files path flags access (next_stream io))

-- what a call does with a stream that is there, by what it is
abbrev pub of_stream : IoState → (Stream → Stepped) → Option (Active Stream) → Stepped
of_stream io does None = refused io status.ErrInvalidId
of_stream io does (Some active) = does active.object

-- a call on a stream
abbrev pub on_stream : IoState → ℕ → (Stream → Stepped) → Stepped
on_stream io id does = of_stream io does (stream_at io id)

-- what a call does with a file, or with a socket
abbrev pub by_kind : Stepped → Stepped → Stream → Stepped
by_kind with_file with_socket stream.File = with_file
by_kind with_file with_socket stream.Socket = with_socket

-- the wait of a task begins, for something, on some streams: wait faults
abbrev pub begun : IoState → ℕ → Moment → Awaited → List ℕ → Timeout → Stepped
begun io task now what on wait = in_streams io (begin_step io.streams (new_wait task what on wait now))

-- a call that finds that it has to wait begins a wait
abbrev pub or_wait : IoState → ℕ → Moment → Awaited → List ℕ → Timeout → Stepped → Stepped
or_wait io task now what on wait stepped =
    if is_waits stepped.0.answer then begun io task now what on wait else stepped

-- a read that may have to wait: its size is looked at before the stream is
abbrev pub read_now : IoState → ℕ → ℕ → Timeout → Stepped
read_now io id n wait =
    if (n == 0) || nat_lt 1024 n then refused io status.ErrInvalidSize
    else on_stream io id
    (by_kind (in_files io (of_streams.read io.files id n)) (in_net io (of_bytes.read io.net id n wait)))

-- a read
abbrev pub read : IoState → ℕ → Moment → ℕ → ℕ → Timeout → Stepped
read io task now id n wait = or_wait io task now (awaited.Read id n) (id ∷ []) wait (read_now io id n wait)

-- a write: its size is looked at before the stream is
abbrev pub write : IoState → ℕ → List ℕ → Stepped
write io id payload =
    if (length payload == 0) || nat_lt 4096 (length payload) then refused io status.ErrInvalidSize
    else on_stream io id
    (by_kind (in_files io (of_streams.write io.files id payload)) (in_net io (of_bytes.write io.net id payload)))

-- a seek: a socket has no places
abbrev pub lseek : IoState → ℕ → ℤ → Whence → Stepped
lseek io id offset whence =
    on_stream io id
    (by_kind (in_files io (of_streams.lseek io.files id offset whence)) (refused io status.ErrIncorrectObjType))

-- the part without a stream, once its file or its socket is closed
abbrev pub closed : IoState → ℕ → Stream → IoState
closed io id stream.File =
    record io { streams = (delete_step io.streams id).1; files = (of_streams.close io.files id).1 }
closed io id stream.Socket =
    record io { streams = (delete_step io.streams id).1; net = (of_closing.close io.net id).1 }

-- what a removal of a stream leaves: it is closed where it was there and nobody held it
abbrev pub closed_where : IoState → ℕ → Result Stream IdFault → IoState
closed_where io id (Err fault) = io
closed_where io id (Ok was) = closed io id was

-- a close: removal faults
abbrev pub close : IoState → ℕ → Stepped
close io id = ((delete_step io.streams id).0, closed_where io id (remove_step io.streams.table id).0)

-- whether an identifier is one of a stream
abbrev pub is_of_stream : ℕ → Bool
is_of_stream id = type_of id == type_number kind.Stream

-- whether an identifier is active, as one of a stream, a directory or a file system
abbrev pub is_active : IoState → ℕ → Bool
is_active io id = if is_of_stream id then is_some (stream_at io id) else of_held.is_active io.files id

-- a hold of a stream, a directory or a file system
abbrev pub hold : IoState → ℕ → Stepped
hold io id =
    if is_of_stream id then in_streams io (hold_call_step io.streams id) else in_files io (of_held.hold io.files id)

-- the end of a hold
abbrev pub release : IoState → ℕ → Stepped
release io id =
    if is_of_stream id then in_streams io (release_call_step io.streams id)
    else in_files io (of_held.release io.files id)
