-- A call on a stream, a directory or a file system that is not there is refused by that.
use Rattle.std.proofs.Common.{◌≡◌, ◌==◌, ◌||◌, ℕ, Bool, true, false, cond, List, [], ◌∷◌, length, nat_lt, Option, Some, None, is_some, refl, ap, ◌∙◌}
use Rattle.std.proofs.lemmas.Bool.{cond-false, true≢false}
use Rattle.osal_base.specs.declared.status.Status.TheVariants as status
use Rattle.osal_base.specs.declared.time.Moment.{Moment}
use Rattle.osal_base.specs.declared.time.Timeout.{Timeout}
use Rattle.osal_base.specs.Reply.{Replied, refusal, is_waits}
use Rattle.osal_idtable.specs.Table.{Active, TableState, active_at}
use Rattle.osal_idtable.specs.Steps.{take_out, unheld}
use Rattle.osal_idtable.specs.Faults.{answered}
use Rattle.osal_object.specs.Objects.{ObjectsState, held_by_caller, hold_call_step, released_by_caller, release_call_step}
use Rattle.osal_file.specs.Files.{FilesState}
use Rattle.osal_file.specs.Held as of_held
use Rattle.osal_socket.specs.Net.{is_no_port}
use Rattle.osal_io.specs.declared.awaited.Awaited.{Awaited}
use Rattle.osal_io.specs.declared.awaited.Awaited.TheVariants as awaited
use Rattle.osal_io.specs.declared.part.Stream.{Stream}
use Rattle.osal_io.specs.Io.{IoState, Stepped, stream_at, of_stream, on_stream, or_wait, read_now, is_of_stream, is_active, in_streams, in_files}
use Rattle.osal_io.specs.Sockets.{accept_now, receive_now}
use Rattle.osal_io.specs.Select.{one_now}
use Rattle.osal_io.specs.Calls.{io_step}
use Rattle.osal_call.specs.declared.call.Call.{Call}
use Rattle.osal_call.specs.declared.call.Call.TheVariants as call
use Rattle.osal_call.specs.Signature.{signature, is_refused_before}
use Rattle.osal_call.specs.Signature as what

-- a call is refused, since its identifier is not active
abbrev pub IsStale : {S : Type 0} → Replied × S → Type 0
IsStale stepped = stepped.0 ≡ refusal status.ErrInvalidId

removal_stale : {T : Type 0} (table : TableState T) (id : ℕ) (found : Option (Active T)) → is_some found ≡ false → answered (take_out table id (unheld found)).0 ≡ refusal status.ErrInvalidId
removal_stale table id None gone = refl
removal_stale table id (Some active) gone = absurd (true≢false gone)

module _ {T W : Type 0} (objects : ObjectsState T W) (id : ℕ) where
  hold_stale : (found : Option (Active T)) → is_some found ≡ false → IsStale (held_by_caller objects id found)
  hold_stale None gone = refl
  hold_stale (Some active) gone = absurd (true≢false gone)

  release_stale : (found : Option (Active T)) → is_some found ≡ false → IsStale (released_by_caller objects id found)
  release_stale None gone = refl
  release_stale (Some active) gone = absurd (true≢false gone)

-- a choice of two steps, each of which is refused where its test fails
choice_stale : {S : Type 0} (own : Bool) (first second : Replied × S) (one other : Bool) → (one ≡ false → IsStale first) → (other ≡ false → IsStale second) → cond own one other ≡ false → IsStale (cond own first second)
choice_stale true first second one other holds also gone = holds gone
choice_stale false first second one other holds also gone = also gone

-- one of four tests, each of which fails where one of them is to
none_of_four : (a b c d : Bool) → (a || b || c || d) ≡ false → ((a || b) ≡ false) × ((c || d) ≡ false)
none_of_four true b c d none = absurd (true≢false none)
none_of_four false true c d none = absurd (true≢false none)
none_of_four false false true d none = absurd (true≢false none)
none_of_four false false false d none = (refl, none)

module _ (io : IoState) where
  on_stale : (does : Stream → Stepped) (found : Option (Active Stream)) → is_some found ≡ false → IsStale (of_stream io does found)
  on_stale does None gone = refl
  on_stale does (Some active) gone = absurd (true≢false gone)

  module _ (other id : ℕ) (same : other ≡ id) (gone : is_some (stream_at io id) ≡ false) where
    stream_stale : (does : Stream → Stepped) → IsStale (on_stream io other does)
    stream_stale does = on_stale does (stream_at io other) (ap (λ i. is_some (stream_at io i)) same ∙ gone)

    -- after a test that fails
    sized_stale : (refused : Bool) (fault : Stepped) (does : Stream → Stepped) → refused ≡ false → IsStale (cond refused fault (on_stream io other does))
    sized_stale refused fault does may =
        ap (λ (s : Stepped). s.0) (cond-false refused fault (on_stream io other does) may) ∙ stream_stale does

  module _ (task : ℕ) (now : Moment) where
    -- a call that is refused so does not wait
    wait_stale : (what : Awaited) (on : List ℕ) (wait : Timeout) (stepped : Stepped) → IsStale stepped → IsStale (or_wait io task now what on wait stepped)
    wait_stale what on wait stepped stale =
        ap (λ (s : Stepped). s.0) (cond-false (is_waits stepped.0.answer) _ _ (ap (λ (r : Replied). is_waits r.answer) stale)) ∙ stale

    -- a call on a stream that is not there
    pub streams_stale : (made : Call) (id : ℕ) → (signature made).subject ≡ what.Object what.Streams id → is_refused_before made ≡ false → is_some (stream_at io id) ≡ false → IsStale (io_step io task now made)
    streams_stale (call.Read other n wait) id is may gone =
        let same : other ≡ id = cc in
        wait_stale (awaited.Read other n) (other ∷ []) wait (read_now io other n wait) (sized_stale other id same gone ((n == 0) || nat_lt 1024 n) _ _ may)
    streams_stale (call.Write other payload) id is may gone =
        let same : other ≡ id = cc in
        sized_stale other id same gone ((length payload.bytes == 0) || nat_lt 4096 (length payload.bytes)) _ _ may
    streams_stale (call.Lseek other offset whence) id is may gone =
        let same : other ≡ id = cc in stream_stale other id same gone _
    streams_stale (call.Close other) id is may gone =
        let same : other ≡ id = cc in
        removal_stale io.streams.table other (stream_at io other) (ap (λ i. is_some (stream_at io i)) same ∙ gone)
    streams_stale (call.SocketBind other port) id is may gone =
        let same : other ≡ id = cc in sized_stale other id same gone (is_no_port port) _ _ may
    streams_stale (call.SocketListen other) id is may gone =
        let same : other ≡ id = cc in stream_stale other id same gone _
    streams_stale (call.SocketConnect other port) id is may gone =
        let same : other ≡ id = cc in sized_stale other id same gone (is_no_port port) _ _ may
    streams_stale (call.SocketAccept other wait) id is may gone =
        let same : other ≡ id = cc in
        wait_stale (awaited.Accept other) (other ∷ []) wait (accept_now io other wait) (stream_stale other id same gone _)
    streams_stale (call.SocketSend other payload port) id is may gone =
        let same : other ≡ id = cc in
        let none = none_of_four (length payload.bytes == 0) (nat_lt 1024 (length payload.bytes)) (port == 0) (nat_lt 65535 port) may in
        ap (λ (s : Stepped). s.0) (cond-false ((length payload.bytes == 0) || nat_lt 1024 (length payload.bytes)) _ _ none.0)
        ∙ sized_stale other id same gone (is_no_port port) _ _ none.1
    streams_stale (call.SocketRecv other n wait) id is may gone =
        let same : other ≡ id = cc in
        wait_stale (awaited.Receive other n) (other ∷ []) wait (receive_now io other n wait) (sized_stale other id same gone ((n == 0) || nat_lt 1024 n) _ _ may)
    streams_stale (call.SocketShutdown other which) id is may gone =
        let same : other ≡ id = cc in stream_stale other id same gone _
    streams_stale (call.SelectOne other asked wait) id is may gone =
        let same : other ≡ id = cc in
        wait_stale (awaited.One other asked) (other ∷ []) wait (one_now io other asked wait) (stream_stale other id same gone _)
    streams_stale _ id is may gone = absurd (cc)

    -- a call on a directory that is not there
    pub directories_stale : (made : Call) (id : ℕ) → (signature made).subject ≡ what.Object what.Directories id → is_refused_before made ≡ false → is_some (active_at io.files.directories.table id) ≡ false → IsStale (io_step io task now made)
    directories_stale (call.DirRead other) id is may gone =
        let same : other ≡ id = cc in
        ap (λ (s : Replied × FilesState). s.0)
        (cond-false (is_some (active_at io.files.directories.table other)) _ _ (ap (λ i. is_some (active_at io.files.directories.table i)) same ∙ gone))
    directories_stale (call.DirRewind other) id is may gone =
        let same : other ≡ id = cc in
        ap (λ (s : Replied × FilesState). s.0)
        (cond-false (is_some (active_at io.files.directories.table other)) _ _ (ap (λ i. is_some (active_at io.files.directories.table i)) same ∙ gone))
    directories_stale (call.DirClose other) id is may gone =
        let same : other ≡ id = cc in
        removal_stale io.files.directories.table other (active_at io.files.directories.table other) (ap (λ i. is_some (active_at io.files.directories.table i)) same ∙ gone)
    directories_stale _ id is may gone = absurd (cc)

    -- a hold of one that is not there, by its type
    held_stale : (id : ℕ) → is_active io id ≡ false → IsStale (io_step io task now (call.Hold id))
    held_stale id gone =
        choice_stale (is_of_stream id) (in_streams io (hold_call_step io.streams id)) (in_files io (of_held.hold io.files id)) (is_some (stream_at io id)) (of_held.is_active io.files id)
        (hold_stale io.streams id (stream_at io id))
        (choice_stale (of_held.is_of_directory id) (of_held.in_directories io.files (hold_call_step io.files.directories id)) (of_held.in_systems io.files (hold_call_step io.files.systems id)) (is_some (active_at io.files.directories.table id)) (is_some (active_at io.files.systems.table id))
        (hold_stale io.files.directories id (active_at io.files.directories.table id))
        (hold_stale io.files.systems id (active_at io.files.systems.table id)))
        gone

    -- the end of one
    released_stale : (id : ℕ) → is_active io id ≡ false → IsStale (io_step io task now (call.Release id))
    released_stale id gone =
        choice_stale (is_of_stream id) (in_streams io (release_call_step io.streams id)) (in_files io (of_held.release io.files id)) (is_some (stream_at io id)) (of_held.is_active io.files id)
        (release_stale io.streams id (stream_at io id))
        (choice_stale (of_held.is_of_directory id) (of_held.in_directories io.files (release_call_step io.files.directories id)) (of_held.in_systems io.files (release_call_step io.files.systems id)) (is_some (active_at io.files.directories.table id)) (is_some (active_at io.files.systems.table id))
        (release_stale io.files.directories id (active_at io.files.directories.table id))
        (release_stale io.files.systems id (active_at io.files.systems.table id)))
        gone

    -- a hold or a release of one that is not there
    pub either_stale : (made : Call) (id : ℕ) → (signature made).subject ≡ what.Object what.OfType id → is_active io id ≡ false → IsStale (io_step io task now made)
    either_stale (call.Hold other) id is gone =
        let same : other ≡ id = cc in held_stale other (ap (λ i. is_active io i) same ∙ gone)
    either_stale (call.Release other) id is gone =
        let same : other ≡ id = cc in released_stale other (ap (λ i. is_active io i) same ∙ gone)
    either_stale _ id is gone = absurd (cc)
